-- The measure is the number: a tenth of it is smaller from ten on.
use Rattle.report.proofs.page.+put_long.Given as goal

abbrev pub decreases-put_long : goal.decreases-put_long
decreases-put_long l = l.n
