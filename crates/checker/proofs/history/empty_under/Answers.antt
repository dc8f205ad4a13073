-- One slot after the other has 0.
use mathlib.Core.Path.{◌≡◌, refl, subst}
use Prim.Native.Nat.{ℕ, ◌+◌, ◌*◌}
use native.Mathlib.Omega.{arith}
use lib.ListN.{set}
use Rattle.theory.specs.order.Limits.{tasks, variables}
use Rattle.theory.specs.basics.Turns.{turns}
use Rattle.theory.specs.history.History.{emptied_under}
use Rattle.theory.proofs.basics.Turns.{no_turn, one_turn, all_turns}
use Rattle.checker.proofs.history.empty_under.Goals as goal

pub loop-u-init : goal.loop-u-init
loop-u-init c = no_turn

pub loop-u-preserved : goal.loop-u-preserved
loop-u-preserved c = one_turn c.loop-u.invariant refl

pub returns : goal.returns
unfolding emptied_under
returns c =
    let a = c.args in
    let p = c.slot-from.ensures.0 in
    let from = c.slot-from.result in
    let e : from ≡ (a.a * variables + a.v.0) * tasks = omega arith in
    subst (λ (k : ℕ). c.loop-u.last ≡ turns tasks (λ u l. set l (k + u) 0) a.last.now) e
    (all_turns tasks c.loop-u.invariant (omega arith) (omega arith))
