-- The loop over the lines of a text: what is written and what is left make what was to be said, with a line read ahead.
use mathlib.Core.Path.{◌≡◌}
use lib.ListN.{length}
use Rattle.checker.specs.Tables.{SameTables, state_in}
use Rattle.report.proofs.Ahead.{Ahead, ahead}
use Rattle.report.proofs.answering.put_lines.Given as goal

abbrev pub invariant-loop-going : goal.invariant-loop-going
invariant-loop-going l =
    (length l.out ≡ length l.initial.out)
    × Ahead l.text l.end l.initial.out l.at (state_in l.initial.here) l.lines l.from l.out (state_in l.here) l.reached l.p l.going l.held l.parsed
    × SameTables l.initial.here l.here

abbrev pub decreases-loop-going : goal.decreases-loop-going
decreases-loop-going l =
    ahead l.end l.p l.going
