-- The named tasks noted as having acted, task by task.
use native.Mathlib.Omega.{arith}
use Rattle.theory.specs.tables.Rows.{note_named}
use Rattle.theory.proofs.basics.Turns.{no_turn, one_turn, all_turns}
use Rattle.theory.specs.order.Limits.{tasks}
use Rattle.checker.proofs.marks.Marking.note_named.Goals as goal

pub loop-t-init : goal.loop-t-init
loop-t-init g c = no_turn

pub loop-t-preserved : goal.loop-t-preserved
loop-t-preserved g c = one_turn c.loop-t.invariant (rw (c.acted_after.ensures, c.has_bit.ensures, c.place-at.ensures.0))

pub returns : goal.returns
unfolding note_named
returns g c = all_turns tasks c.loop-t.invariant (omega arith) (omega arith)
