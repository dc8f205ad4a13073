-- Task by task; each walk is a number of 32 bits, so that the sum of all fits.
use Prim.Native.Nat.{◌≤◌, ◌+◌, ◌*◌, ◌^◌}
use Rattle.theory.specs.tables.Reckonings.{word_bits}
use Rattle.requests.specs.lazy.Fold.{walk_by}
use Rattle.theory.proofs.basics.Turns.{Turned}
use Rattle.lazy_sets.specs.AsLazy.{as_lazy}
use Rattle.lazy_sets.proofs.kept.LazySets.walks.Given as goal

abbrev pub invariant-loop-u : goal.invariant-loop-u
invariant-loop-u l = (l.sum ≤ l.u * 2 ^ word_bits) × Turned (λ u n. n + walk_by l.own (as_lazy l.self) u) 0 l.u l.sum
