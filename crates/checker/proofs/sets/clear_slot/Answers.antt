-- The slot's bit is taken from each row, row by row.
use native.Mathlib.Omega.{arith}
use Rattle.theory.specs.tables.Rows.{row_count}
use Rattle.theory.specs.tables.Reckonings.{clear_slot}
use Rattle.theory.proofs.basics.Turns.{no_turn, one_turn, all_turns}
use Rattle.checker.proofs.sets.clear_slot.Goals as goal

pub loop-r-init : goal.loop-r-init
loop-r-init c = no_turn

pub loop-r-preserved : goal.loop-r-preserved
loop-r-preserved c = one_turn c.loop-r.invariant (rw c.place.ensures.0)

pub returns : goal.returns
unfolding clear_slot
returns c = rw (← c.all_but-others.ensures.0 (omega arith)) (all_turns row_count c.loop-r.invariant (omega arith) (omega arith))
