-- Column by column; a word that is as it was has no new bit.
use mathlib.Core.Path.{refl}
use native.Mathlib.Omega.{arith}
use Rattle.theory.specs.tables.Reckonings.{word_bits}
use Rattle.requests.specs.lazy.Fold.{arrived_now}
use Rattle.theory.proofs.basics.Turns.{no_turn, one_turn, all_turns}
use Rattle.requests.proofs.lazy.Code.{no_arrival}
use Rattle.lazy_sets.proofs.kept.LazySets.arrive_now.Goals as goal

pub returns-then-before-after : goal.returns-then-before-after
returns-then-before-after c = let a = c.args in rw (c.if-before-after.true, no_arrival a.after a.self.now.walk.walked a.self.now.counts)

pub loop-c-init : goal.loop-c-init
loop-c-init c = (refl, no_turn)

pub loop-c-preserved : goal.loop-c-preserved
loop-c-preserved c = let x = c.loop-c.invariant in (rw (c.arrive.ensures, x.0), one_turn x.1 (rw (c.arrive.ensures, x.0)))

pub returns : goal.returns
unfolding arrived_now
returns c = let x = c.loop-c.invariant in rw (x.0, all_turns word_bits x.1 (omega arith) (omega arith))
