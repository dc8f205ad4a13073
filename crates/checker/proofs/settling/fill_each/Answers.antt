-- Table after table, each by its own task.
use mathlib.Core.Path.{ap, ◌∙◌}
use mathlib.Core.List.{List}
use Prim.Native.Nat.{ℕ}
use native.Mathlib.Omega.{arith}
use lib.ListN.{set}
use Rattle.theory.specs.order.Limits.{tasks}
use Rattle.requests.specs.settling.Fold.{homes_after}
use Rattle.theory.proofs.basics.Turns.{no_turn, one_turn, all_turns}
use Rattle.checker.proofs.settling.fill_each.Goals as goal

pub loop-t-init : goal.loop-t-init
loop-t-init c = no_turn

pub loop-t-preserved : goal.loop-t-preserved
loop-t-preserved c =
    one_turn c.loop-t.invariant (ap (λ (x : List ℕ). set c.loop-t.homes c.loop-t.t x) (c.fill_by.ensures ∙ rw (c.weight.ensures.0 (omega arith))))

pub returns : goal.returns
unfolding homes_after
returns c = all_turns tasks c.loop-t.invariant (omega arith) (omega arith)
