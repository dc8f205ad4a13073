-- From the place on there is no LF.
use mathlib.Core.Path.{◌≡◌}
use lib.ListN.{length, drop}
use Rattle.text.specs.Lines.{line_end}
use Rattle.report.proofs.streaming.rest_start.Given as goal

abbrev pub invariant-loop-i : goal.invariant-loop-i
invariant-loop-i l = line_end (drop l.i l.text) ≡ length (drop l.i l.text)
