-- Emptied for each kind in turn.
use Rattle.theory.specs.history.History.{emptied_under}
use Rattle.theory.proofs.basics.Turns.{Turned}
use Rattle.checker.proofs.history.empty.Given as goal

abbrev pub invariant-loop-a : goal.invariant-loop-a
invariant-loop-a l = Turned (emptied_under l.v.0) l.initial.last l.a l.last
