-- One slot after the other has 0.
use Prim.Native.Nat.{◌+◌}
use lib.ListN.{set}
use Rattle.theory.proofs.basics.Turns.{Turned}
use Rattle.checker.proofs.history.empty_under.Given as goal

abbrev pub invariant-loop-u : goal.invariant-loop-u
invariant-loop-u l = Turned (λ u h. set h (l.from + u) 0) l.initial.last l.u l.last
