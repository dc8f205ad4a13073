-- A history that is emptied for a variable: its slots have 0, and all others what they had. Assumes nothing.
use mathlib.Core.Path.{◌≡◌, refl, ◌∙◌}
use mathlib.Core.Bool.{Bool}
use mathlib.Core.List.{List}
use Prim.Native.Nat.{ℕ, zero, suc, ◌+◌, ◌*◌, ◌/◌, ◌%◌, ◌<◌}
use native.Mathlib.Omega.{arith}
use lib.ListN.{length}
use Rattle.theory.specs.basics.Turns.{turns}
use Rattle.theory.specs.order.Limits.{tasks, variables}
use Rattle.theory.specs.history.History.{askers, slot, slots, last_of, emptied_under, emptied}
use Rattle.theory.proofs.basics.Reflects.{Reflects, right, wrong, equal}
use Rattle.theory.proofs.tables.Rows.{stores_length, stores_other, stores_at}

-- for the first n of them
abbrev emptied_up_to : ℕ → ℕ → List ℕ → List ℕ
emptied_up_to v n last = turns n (emptied_under v) last

module _ (v : ℕ) (last : List ℕ) where
  for_length : (a : ℕ) (l : List ℕ) → length (emptied_under v a l) ≡ length l
  unfolding emptied_under
  for_length a l = stores_length ((a * variables + v) * tasks) (λ c x. 0) l tasks

  for_other : (a s : ℕ) (l : List ℕ) → ((u : ℕ) → u < tasks → ¬ (s ≡ slot a v u)) → last_of (emptied_under v a l) s ≡ last_of l s
  unfolding emptied_under
  for_other a s l f = stores_other ((a * variables + v) * tasks) (λ c x. 0) l tasks s f

  for_at : (a u : ℕ) (l : List ℕ) → u < tasks → slot a v u < length l → last_of (emptied_under v a l) (slot a v u) ≡ 0
  unfolding emptied_under
  for_at a u l h m = stores_at ((a * variables + v) * tasks) (λ c x. 0) l tasks u h m

  up_to_length : (n : ℕ) → length (emptied_up_to v n last) ≡ length last
  unfolding turns
  up_to_length zero = refl
  up_to_length (suc n) = for_length n (emptied_up_to v n last) ∙ up_to_length n

  up_to_other : (n s : ℕ) → ((a u : ℕ) → a < n → u < tasks → ¬ (s ≡ slot a v u)) → last_of (emptied_up_to v n last) s ≡ last_of last s
  unfolding turns
  up_to_other zero s f = refl
  up_to_other (suc n) s f = for_other n s (emptied_up_to v n last) (λ u h. f n u (omega arith) h) ∙ up_to_other n s (λ a u l h. f a u (omega arith) h)

  up_to_at : (n a u : ℕ) → v < variables → a < n → u < tasks → slot a v u < length last → last_of (emptied_up_to v n last) (slot a v u) ≡ 0
  unfolding turns
  up_to_at zero a u hv h hu m = absurd (omega arith)
  up_to_at (suc n) a u hv h hu m = decided (equal a n) (λ l. up_to_at n a u hv l hu m)
    where
      decided : {b : Bool} → Reflects (a ≡ n) b → (a < n → last_of (emptied_up_to v n last) (slot a v u) ≡ 0) → last_of (emptied_under v n (emptied_up_to v n last)) (slot a v u) ≡ 0
      decided (right e) ih = rw e (for_at n u (emptied_up_to v n last) hu (let l = up_to_length n in omega arith))
      decided (wrong d) ih = for_other n (slot a v u) (emptied_up_to v n last) (λ c l e. d (omega arith)) ∙ ih (omega arith)

  pub emptied_length : length (emptied v last) ≡ length last
  unfolding emptied
  emptied_length = up_to_length (length askers)

  pub emptied_other : (s : ℕ) → ((a u : ℕ) → u < tasks → ¬ (s ≡ slot a v u)) → last_of (emptied v last) s ≡ last_of last s
  unfolding emptied
  emptied_other s f = up_to_other (length askers) s (λ a u h l. f a u l)

  pub emptied_at : (a u : ℕ) → v < variables → u < tasks → slot a v u < slots → length last ≡ slots → last_of (emptied v last) (slot a v u) ≡ 0
  unfolding emptied
  emptied_at a u hv hu m e = up_to_at (length askers) a u hv (omega arith) hu (omega arith)

-- the kind and the task of a slot
pub slot_parts : (s a v u : ℕ) → v < variables → u < tasks → s ≡ slot a v u → s ≡ slot (s / tasks / variables) v (s % tasks)
slot_parts s a v u hv hu e = omega arith
