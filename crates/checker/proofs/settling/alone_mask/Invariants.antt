-- The mask of the tasks whose table has no task apart, gathered from the lowest task up.
use mathlib.Core.List.{[]}
use lib.Dec.{eqb}
use lib.ListN.{get_or}
use Rattle.theory.specs.tables.Reckonings.{clock_mask}
use Rattle.theory.proofs.tables.Bits.{Gathered}
use Rattle.checker.proofs.settling.alone_mask.Given as goal

abbrev pub invariant-loop-t : goal.invariant-loop-t
invariant-loop-t l = Gathered (λ t. eqb (clock_mask (get_or l.homes t []) l.last l.access.kind l.access.task.0 l.access.variable.0) 0) l.t l.x
