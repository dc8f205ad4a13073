-- All Doubts, then task by task.
use native.Mathlib.Omega.{arith}
use Rattle.theory.specs.order.Limits.{tasks}
use Rattle.theory.proofs.basics.Turns.{no_turn, one_turn, all_turns}
use Rattle.settle.specs.Table.{tallied}
use Rattle.settle.proofs.tally.tally.Goals as goal

pub loop-t-init : goal.loop-t-init
loop-t-init c = no_turn

pub loop-t-preserved : goal.loop-t-preserved
loop-t-preserved c = one_turn c.loop-t.invariant c.count_task.ensures

pub returns : goal.returns
unfolding tallied
returns c = rw (c.in-Some.is, ← c.raise.ensures) (all_turns tasks c.loop-t.invariant (omega arith) (omega arith))
