-- Swaps of neighbours in a list, one and any number of them, and where an entry stands afterwards.
use Rattle.std.specs.Prelude.{ℕ, zero, suc, List, ◌∷◌}

-- "swap two neighbours": the second list is the first with two neighbours swapped that R allows
pub data Swapped {A : Type 0} (R : A → A → Type 0) : List A → List A → Type 0 where
  these : {x y : A} {xs : List A} → R x y → Swapped R (x ∷ (y ∷ xs)) (y ∷ (x ∷ xs))
  later : {x : A} {xs ys : List A} → Swapped R xs ys → Swapped R (x ∷ xs) (x ∷ ys)

-- the place, after the swap, of what stood at place k
abbrev pub moved : {A : Type 0} {R : A → A → Type 0} {xs ys : List A} → Swapped R xs ys → ℕ → ℕ
moved (these r) zero = 1
moved (these r) (suc zero) = 0
moved (these r) (suc (suc k)) = suc (suc k)
moved (later s) zero = zero
moved (later s) (suc k) = suc (moved s k)

-- "any number of such swaps", one after the other
pub data Swaps {A : Type 0} (R : A → A → Type 0) : List A → List A → Type 0 where
  no_swap : {xs : List A} → Swaps R xs xs
  swap_then : {xs ys zs : List A} → Swapped R xs ys → Swaps R ys zs → Swaps R xs zs

-- the place, after all of them, of what stood at place k
abbrev pub moved_by : {A : Type 0} {R : A → A → Type 0} {xs ys : List A} → Swaps R xs ys → ℕ → ℕ
moved_by no_swap k = k
moved_by (swap_then s ss) k = moved_by ss (moved s k)
