-- The mask of the tasks whose table has no task apart, gathered from the lowest task up.
use mathlib.Core.Path.{ap, ◌∙◌}
use Prim.Native.Nat.{ℕ}
use native.Mathlib.Omega.{arith}
use lib.Dec.{eqb}
use Rattle.theory.proofs.tables.Bits.{no_weights, one_weight, all_weights}
use Rattle.checker.proofs.settling.alone_mask.Goals as goal

pub loop-t-init : goal.loop-t-init
loop-t-init c = no_weights

pub loop-t-preserved : goal.loop-t-preserved
loop-t-preserved c = one_weight (omega arith) c.loop-t.invariant c.added_weight-x.ensures (ap (λ (m : ℕ). eqb m 0) c.access_mask-apart.ensures)

pub returns : goal.returns
returns c = c.lower_half.ensures ∙ all_weights c.loop-t.invariant (omega arith) (omega arith)
