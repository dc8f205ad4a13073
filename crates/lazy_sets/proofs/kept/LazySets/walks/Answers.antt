-- Task by task; each walk is a number of 32 bits, so that the sum of all fits.
use native.Mathlib.Omega.{arith}
use Rattle.theory.specs.order.Limits.{tasks}
use Rattle.requests.specs.lazy.Fold.{walks}
use Rattle.theory.proofs.basics.Turns.{no_turn, one_turn, all_turns}
use Rattle.std.proofs.Common.{rules}
use Rattle.lazy_sets.proofs.kept.LazySets.walks.Goals as goal

pub loop-u-init : goal.loop-u-init
loop-u-init c = (search rules, no_turn)

pub loop-u-preserved : goal.loop-u-preserved
loop-u-preserved c = (omega arith, one_turn c.loop-u.invariant.1 (rw (c.from-sum.ensures, c.walk_by.ensures)))

pub returns : goal.returns
unfolding walks
returns c = all_turns tasks c.loop-u.invariant.1 (omega arith) (omega arith)
