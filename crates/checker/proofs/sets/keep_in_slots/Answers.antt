-- Kept anew under each kind in turn.
use native.Mathlib.Omega.{arith}
use lib.ListN.{length}
use Rattle.theory.specs.history.History.{askers, under_each}
use Rattle.theory.proofs.basics.Turns.{no_turn, one_turn, all_turns}
use Rattle.checker.proofs.sets.keep_in_slots.Goals as goal

pub loop-a-init : goal.loop-a-init
loop-a-init c = no_turn

pub loop-a-preserved : goal.loop-a-preserved
loop-a-preserved c = one_turn c.loop-a.invariant c.keep_under.ensures

pub returns : goal.returns
unfolding under_each
returns c = all_turns (length askers) c.loop-a.invariant (omega arith) (omega arith)
