-- A store for each kind in turn; those that are made once more change nothing.
use lib.ListN.{set}
use Rattle.theory.specs.history.History.{slot}
use Rattle.theory.proofs.basics.Turns.{Turned}
use Rattle.theory.proofs.history.Accesses.{kept_under}
use Rattle.checker.proofs.history.keep.Given as goal

abbrev pub invariant-loop-a : goal.invariant-loop-a
invariant-loop-a l = Turned (λ a h. set h (slot (kept_under l.asks a) l.access.variable.0 l.access.task.0) l.number.0) l.initial.last l.a l.last
