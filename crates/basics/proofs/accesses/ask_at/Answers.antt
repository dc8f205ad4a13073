-- The number of the kind among theirs, looked for from the first to the last.
use native.Mathlib.Omega.{arith}
use lib.ListN.{length}
use Rattle.theory.specs.history.History.{askers}
use Rattle.theory.proofs.basics.Turns.{no_turn, one_turn, all_turns}
use Rattle.theory.proofs.history.Accesses.{sought_right_lem}
use Rattle.basics.proofs.accesses.ask_at.Goals as goal

pub loop-a-init : goal.loop-a-init
loop-a-init c = no_turn

pub loop-a-preserved : goal.loop-a-preserved
loop-a-preserved c = one_turn c.loop-a.invariant c.picked-asks.ensures

pub returns : goal.returns
returns c = rw (all_turns (length askers) c.loop-a.invariant (omega arith) (omega arith)) (sought_right_lem c.args.kind)
