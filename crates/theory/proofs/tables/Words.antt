-- Words of 32 bits: what a bit is after words are joined, and after one bit is set or cleared. Assumes nothing.
use mathlib.Core.Path.{◌≡◌, refl, sym, ◌∙◌, ap, subst}
use mathlib.Core.Bool.{Bool, true, false, cond, not}
use mathlib.Core.Logic.{◌↔◌, ◌⊎◌, inl, inr}
use mathlib.Core.List.{List}
use Prim.Native.Nat.{ℕ, zero, suc, ◌+◌, ◌*◌, ◌-◌, ◌/◌, ◌%◌, ◌^◌, ◌<◌, min, max}
use native.Mathlib.Nat.{zero-div}
use native.Mathlib.Omega.{arith}
use borrow.Author.Tests.{eq-eqb, ne_eqb}
use lib.Bits.{bit_and, bit_or, or_step, and_step, or_shr, and_shr, and_high}
use lib.Dec.{T, eqb}
use lib.Pow.{pow_pos, pow-add, shr-shr}
use Rattle.theory.specs.basics.Turns.{turns, any_below}
use Rattle.theory.specs.fillings.Completion.{bit}
use Rattle.theory.specs.history.History.{slot}
use Rattle.theory.specs.tables.Rows.{cell}
use Rattle.theory.specs.tables.Reckonings.{slot_words, slot_word, slot_place, has_slot, known_slots, with_bit, without_bit, word_bits}
use Rattle.theory.specs.order.Limits.{tasks}
use Rattle.theory.proofs.basics.Reflects.{Reflects, right, wrong, equal}
use Rattle.theory.proofs.acceptance.Rows.{none_below}
use Rattle.theory.proofs.tables.Rows.{Joins, same_or}

-- Digits

abbrev digit : ℕ → ℕ → ℕ
digit x k = x / 2 ^ k % 2

or_digit : (x y k : ℕ) → digit (bit_or x y) k ≡ max (digit x k) (digit y k)
or_digit x y k = ap (λ (n : ℕ). n % 2) (or_shr x y k ∙ or_step (x / 2 ^ k) (y / 2 ^ k)) ∙ low _ (x / 2 ^ k) (y / 2 ^ k)
  where
    low : (p a b : ℕ) → (p * 2 + max (a % 2) (b % 2)) % 2 ≡ max (a % 2) (b % 2)
    low p a b = omega arith

and_digit : (x y k : ℕ) → digit (bit_and x y) k ≡ min (digit x k) (digit y k)
and_digit x y k = ap (λ (n : ℕ). n % 2) (and_shr x y k ∙ and_step (x / 2 ^ k) (y / 2 ^ k)) ∙ low _ (x / 2 ^ k) (y / 2 ^ k)
  where
    low : (p a b : ℕ) → (p * 2 + min (a % 2) (b % 2)) % 2 ≡ min (a % 2) (b % 2)
    low p a b = omega arith

-- Joined words

pub joins_or : (k : ℕ) → Joins bit_or (λ x. T (bit x k))
joins_or k = record { alone = same_or; joined = λ x y. subst (λ (d : ℕ). T (eqb d 1) ↔ (T (bit x k) ⊎ T (bit y k))) (sym (or_digit x y k)) (of (digit x k) (digit y k) (omega arith) (omega arith)); nothing = none }
  where
    of : (a b : ℕ) → a < 2 → b < 2 → T (eqb (max a b) 1) ↔ (T (eqb a 1) ⊎ T (eqb b 1))
    of zero zero h l = ((λ t. inl t), λ s. elim s [ inl t ↦ t | inr t ↦ t ])
    of zero (suc zero) h l = ((λ t. inr t), λ s. tt)
    of zero (suc (suc b)) h l = absurd (omega arith)
    of (suc zero) zero h l = ((λ t. inl t), λ s. tt)
    of (suc zero) (suc zero) h l = ((λ t. inl t), λ s. tt)
    of (suc zero) (suc (suc b)) h l = absurd (omega arith)
    of (suc (suc a)) b h l = absurd (omega arith)

    none : ¬ T (bit 0 k)
    none t = subst (λ (d : ℕ). T (eqb d 1)) (ap (λ (n : ℕ). n % 2) (zero-div (2 ^ k))) t

-- One bit

-- a test that holds of every two bits of a word, by trying them
all_pairs : (p : ℕ → ℕ → Bool) → any_below word_bits (λ k. any_below word_bits (λ j. not (p k j))) ≡ false → (k j : ℕ) → k < word_bits → j < word_bits → not (p k j) ≡ false
all_pairs p e k j h l = none_below word_bits (λ j. not (p k j)) (none_below word_bits (λ k. any_below word_bits (λ j. not (p k j))) e k h) j l

eqb_of : (m n : ℕ) → not (eqb m n) ≡ false → m ≡ n
eqb_of m n e = decided (equal m n) e
  where
    decided : {b : Bool} → Reflects (m ≡ n) b → not b ≡ false → m ≡ n
    decided (right q) e = q
    decided (wrong f) e = absurd (subst T e tt)

one_digit : (k j : ℕ) → k < word_bits → j < word_bits → digit (2 ^ k) j ≡ cond (eqb j k) 1 0
unfolding turns
one_digit k j h l = eqb_of _ _ (all_pairs (λ k j. eqb (digit (2 ^ k) j) (cond (eqb j k) 1 0)) refl k j h l)

other_digit : (k j : ℕ) → k < word_bits → j < word_bits → digit (2 ^ word_bits - 1 - 2 ^ k) j ≡ cond (eqb j k) 0 1
unfolding turns
other_digit k j h l = eqb_of _ _ (all_pairs (λ k j. eqb (digit (2 ^ word_bits - 1 - 2 ^ k) j) (cond (eqb j k) 0 1)) refl k j h l)

with_digit : (k j x : ℕ) → k < word_bits → j < word_bits → digit (with_bit k x) j ≡ cond (eqb j k) 1 (digit x j)
with_digit k j x h l = or_digit x (2 ^ k) j ∙ (ap (max (digit x j)) (one_digit k j h l) ∙ of (eqb j k))
  where
    of : (b : Bool) → max (digit x j) (cond b 1 0) ≡ cond b 1 (digit x j)
    of true = omega arith
    of false = omega arith

without_digit : (k j x : ℕ) → k < word_bits → j < word_bits → digit (without_bit k x) j ≡ cond (eqb j k) 0 (digit x j)
without_digit k j x h l = and_digit x (2 ^ word_bits - 1 - 2 ^ k) j ∙ (ap (min (digit x j)) (other_digit k j h l) ∙ of (eqb j k))
  where
    of : (b : Bool) → min (digit x j) (cond b 0 1) ≡ cond b 0 (digit x j)
    of true = omega arith
    of false = omega arith

-- the bit that is set or cleared, and the others
pub with_bit_lem : (k j x : ℕ) → k < word_bits → j < word_bits → bit (with_bit k x) j ≡ cond (eqb j k) true (bit x j)
with_bit_lem k j x h l = ap (λ (d : ℕ). eqb d 1) (with_digit k j x h l) ∙ of (eqb j k)
  where
    of : (b : Bool) → eqb (cond b 1 (digit x j)) 1 ≡ cond b true (bit x j)
    of true = refl
    of false = refl

pub without_bit_lem : (k j x : ℕ) → k < word_bits → j < word_bits → bit (without_bit k x) j ≡ cond (eqb j k) false (bit x j)
without_bit_lem k j x h l = ap (λ (d : ℕ). eqb d 1) (without_digit k j x h l) ∙ of (eqb j k)
  where
    of : (b : Bool) → eqb (cond b 0 (digit x j)) 1 ≡ cond b false (bit x j)
    of true = refl
    of false = refl

-- a word has no bit in common with a weight where that bit is 0
pub and_weight : (x u : ℕ) → eqb (bit_and x (2 ^ u)) 0 ≡ not (bit x u)
and_weight x u = rw single (of (digit x u) (omega arith))
  where
    single : bit_and x (2 ^ u) ≡ digit x u * 2 ^ u
    single = let e : 2 ^ (1 + u) - 2 ^ u ≡ 2 ^ u = omega (arith, pow-add 2 1 u) in rw e at (and_high x 1 u)

    of : (d : ℕ) → d < 2 → eqb (d * 2 ^ u) 0 ≡ not (eqb d 1)
    of zero h = eq-eqb (0 * 2 ^ u) 0 (omega arith)
    of (suc zero) h = ne_eqb (1 * 2 ^ u) 0 (λ e. omega (arith, pow_pos u))
    of (suc (suc d)) h = absurd (omega arith)

-- what a row knows of a task's access is the task's bit in what it knows of all tasks' accesses of the kind to the variable
pub slot_known : (b : List ℕ) (r k v u : ℕ) → u < tasks → has_slot b r (slot k v u) ≡ bit (known_slots b r k v) u
slot_known b r k v u h =
    let w : slot_word (slot k v u) ≡ slot_word (slot k v 0) = omega arith in
    let p : slot_place (slot k v u) ≡ slot_place (slot k v 0) + u = omega arith in
    rw (w, p) (ap (λ (n : ℕ). eqb (n % 2) 1) (sym (shr-shr (cell slot_words b r (slot_word (slot k v 0))) (slot_place (slot k v 0)) u)))
