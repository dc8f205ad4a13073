-- Below ten a number is spaces and a digit, and from ten on its tenth in what is left of the column and its last digit. The measure is the number.
use Rattle.totals.proofs.table.+put_aligned.Given as goal

abbrev pub decreases-put_aligned : goal.decreases-put_aligned
decreases-put_aligned l = l.n
