-- The number of the kind among theirs, looked for from the first to the last.
use lib.ListN.{length}
use Rattle.theory.specs.history.History.{askers}
use Rattle.theory.proofs.basics.Turns.{Turned}
use Rattle.theory.proofs.history.Accesses.{sought}
use Rattle.basics.proofs.accesses.ask_at.Given as goal

abbrev pub invariant-loop-a : goal.invariant-loop-a
invariant-loop-a l = Turned (sought l.kind) (length askers) l.a l.asks
