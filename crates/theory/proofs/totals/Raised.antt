-- Raising a total changes nothing that acceptance looks at. Assumes nothing.
use mathlib.Core.List.{List}
use Prim.Native.Nat.{ℕ, ◌≤◌}
use native.Mathlib.Omega.{arith}
use Rattle.theory.specs.order.Recording.{Event}
use Rattle.theory.specs.acceptance.Control.{acceptance_cells}
use Rattle.theory.specs.verdicts.Verdict.{Verdict, Race, Clear, Doubt}
use Rattle.theory.specs.feeding.Meaning.{Meaning, refuses, takes, judges}
use Rattle.theory.specs.tables.Counters.{raise}
use Rattle.theory.specs.totals.Totals.{with_verdict, totalled}
use Rattle.theory.proofs.acceptance.ControlTable.{ExactControl, exact_elsewhere}

exact_raise : {es : List Event} {control : List ℕ} (i : ℕ) → acceptance_cells ≤ i → ExactControl es control → ExactControl es (raise i control)
unfolding raise
exact_raise i h x = exact_elsewhere x i _ h

exact_verdict : {es : List Event} {control : List ℕ} (w : Verdict) (v : ℕ) → ExactControl es control → ExactControl es (with_verdict w v control)
exact_verdict Clear v x = exact_raise _ (omega arith) x
exact_verdict Race v x = exact_raise _ (omega arith) (exact_raise _ (omega arith) x)
exact_verdict Doubt v x = exact_raise _ (omega arith) x

pub exact_totalled : {es : List Event} {control : List ℕ} (m : Meaning) (v : ℕ) → ExactControl es control → ExactControl es (totalled m v control)
exact_totalled (refuses n) v x = x
exact_totalled (takes n) v x = x
exact_totalled (judges n w p) v x = exact_verdict w v x
