-- The mask of an access, gathered from the lowest task up.
use mathlib.Core.Path.{refl}
use native.Mathlib.Omega.{arith}
use Rattle.theory.proofs.tables.Bits.{no_weights, one_weight, all_twice}
use Rattle.checker.proofs.clocks.mask.Goals as goal

pub loop-c-init : goal.loop-c-init
loop-c-init c = no_weights

pub loop-c-preserved : goal.loop-c-preserved
loop-c-preserved c = one_weight (omega arith) c.loop-c.invariant c.added_weight-x.ensures refl

pub returns : goal.returns
returns c = all_twice c.loop-c.invariant (omega arith) (omega arith)
