-- One pass over a clock: what it copies and what it answers. Assumes nothing.
use mathlib.Core.Path.{◌≡◌, refl, sym, subst}
use mathlib.Core.Bool.{Bool, true, ◌||◌, true≢false}
use mathlib.Core.Logic.{◌↔◌}
use mathlib.Core.List.{List}
use Prim.Native.Nat.{ℕ, zero, suc, max, ◌<◌}
use native.Mathlib.Omega.{arith}
use lib.Dec.{ltb}
use Rattle.theory.specs.order.Limits.{tasks}
use Rattle.theory.specs.basics.Turns.{turns, any_below}
use Rattle.theory.specs.tables.Rows.{cell, join_cell, any_newer}
use Rattle.theory.specs.tables.Joining.{OnePass}
use Rattle.theory.proofs.basics.Reflects.{Reflects, right, wrong, at_most}
use Rattle.theory.proofs.tables.Rows.{Sized, turns_other, join_cell_same, join_cell_other}
use Rattle.theory.proofs.basics.Turns.{Turned}

-- some number below n passes
pub any_test : (n : ℕ) (p : ℕ → Bool) (P : ℕ → Type 0) → ((k : ℕ) → Reflects (P k) (p k)) → Reflects ((k : ℕ) × (k < n) × P k) (any_below n p)
unfolding turns
any_test zero p P r = wrong (λ x. let l = x.1 in omega arith)
any_test (suc n) p P r = at_last (any_test n p P r) (r n)
  where
    at_last : {a b : Bool} → Reflects ((k : ℕ) × (k < n) × P k) a → Reflects (P n) b → Reflects ((k : ℕ) × (k < suc n) × P k) (a || b)
    at_last (right x) s = let l = x.1 in right (x.0, omega arith, x.2)
    at_last (wrong f) (right y) = right (n, omega arith, y)
    at_last (wrong f) (wrong g) = wrong (λ x. neither x (at_most (suc x.0) n))
      where
        neither : (x : (k : ℕ) × (k < suc n) × P k) → {b : Bool} → Reflects (x.0 < n) b → ⊥
        neither x (right l) = f (x.0, l, x.2)
        neither x (wrong m) = let l = x.1 in let e : x.0 ≡ n = omega arith in g (subst P e x.2)

-- the test of a number is that it holds
holds : {P : Type 0} {b : Bool} → Reflects P b → (b ≡ true) ↔ P
holds (right p) = (λ e. p, λ q. refl)
holds (wrong f) = (λ e. absurd (true≢false (sym e)), λ q. absurd (f q))

pub one_pass : OnePass
unfolding any_newer
one_pass to from b size h =
    let s : Sized tasks b = record { size = size } in
    record {
      newer_entries = λ t l. join_cell_same max s to from t (omega arith) l;
      others = λ r t l d. join_cell_other max s to from r t l d;
      answers = holds (any_test tasks (λ c. ltb (cell tasks b to c) (cell tasks b from c)) (λ c. cell tasks b to c < cell tasks b from c) (λ c. at_most (suc (cell tasks b to c)) (cell tasks b from c)));
    }

-- after n turns of a join the entries of column n are as they were
pub column_unread : (j : ℕ → ℕ → ℕ) (w to from : ℕ) {n : ℕ} {b x : List ℕ} → Turned (join_cell j w to from) b n x → n < w →
    (cell w x to n ≡ cell w b to n) × (cell w x from n ≡ cell w b from n)
column_unread j w to from {n} {b} t h =
    rw t.is (
      turns_other j w b to from n to n (omega arith) h (λ x. omega (arith, x.1)),
      turns_other j w b to from n from n (omega arith) h (λ x. omega (arith, x.1)),
    )
