-- Each turn of the loop is one of `any_below`.
use mathlib.Core.Path.{refl}
use native.Mathlib.Omega.{arith}
use Rattle.theory.specs.order.Limits.{tasks}
use Rattle.theory.proofs.basics.Turns.{no_turn, one_turn, all_turns}
use Rattle.acceptance.proofs.refusals.names_any_dead.Goals as goal

pub loop-t-init : goal.loop-t-init
loop-t-init c = no_turn

pub loop-t-preserved : goal.loop-t-preserved
loop-t-preserved c = one_turn c.loop-t.invariant (rw c.names_dead-found.ensures refl)

pub returns : goal.returns
returns c = all_turns tasks c.loop-t.invariant (omega arith) (omega arith)
