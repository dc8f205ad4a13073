-- The mask of a test has just the bits of the tasks that pass it. Assumes nothing.
use mathlib.Core.Path.{◌≡◌, refl, sym, ◌∙◌, ap}
use mathlib.Core.Bool.{Bool, true, false}
use Prim.Native.Nat.{ℕ, zero, suc, ◌+◌, ◌*◌, ◌-◌, ◌/◌, ◌%◌, ◌^◌, ◌≤◌, ◌<◌}
use native.Mathlib.Omega.{arith}
use lib.Dec.{eqb}
use lib.Pow.{shr-shr}
use Rattle.theory.specs.order.Limits.{tasks}
use Rattle.theory.specs.fillings.Completion.{bit}
use Rattle.theory.specs.basics.Turns.{turns, indicator}
use Rattle.theory.specs.tables.Reckonings.{mask_of}

-- the highest n tasks that pass, as a mask
abbrev highest : (ℕ → Bool) → ℕ → ℕ
highest p n = turns n (λ i m. indicator (p (tasks - 1 - i)) + 2 * m) 0

-- the digits of a mask with one more below
module _ (b : Bool) (m : ℕ) where
  first_digit : (indicator b + 2 * m) / 2 ^ 0 % 2 ≡ indicator b
  first_digit = of b
    where
      of : (b : Bool) → (indicator b + 2 * m) / 2 ^ 0 % 2 ≡ indicator b
      of true = omega arith
      of false = omega arith

  next_digit : (k : ℕ) → (indicator b + 2 * m) / 2 ^ suc k ≡ m / 2 ^ k
  next_digit k = sym (shr-shr (indicator b + 2 * m) 1 k ∙ ap (λ (j : ℕ). (indicator b + 2 * m) / 2 ^ j) (let e : 1 + k ≡ suc k = omega arith in e)) ∙ ap (λ (j : ℕ). j / 2 ^ k) (half b)
    where
      half : (b : Bool) → (indicator b + 2 * m) / 2 ≡ m
      half true = omega arith
      half false = omega arith

digit : (p : ℕ → Bool) (n k : ℕ) → n ≤ tasks → k < n → highest p n / 2 ^ k % 2 ≡ indicator (p (tasks - n + k))
unfolding turns
digit p zero k h l = absurd (omega arith)
digit p (suc n) zero h l = let e : tasks - suc n + 0 ≡ tasks - 1 - n = omega arith in rw e (first_digit (p (tasks - 1 - n)) (highest p n))
digit p (suc n) (suc k) h l =
    let e : tasks - suc n + suc k ≡ tasks - n + k = omega arith in
    rw (e, next_digit (p (tasks - 1 - n)) (highest p n) k) (digit p n k (omega arith) (omega arith))

pub mask_bit : (p : ℕ → Bool) (u : ℕ) → u < tasks → bit (mask_of p) u ≡ p u
unfolding mask_of
mask_bit p u h = let e : tasks - tasks + u ≡ u = omega arith in ap (λ (d : ℕ). eqb d 1) (rw e at (digit p tasks u (omega arith) h)) ∙ one (p u)
  where
    one : (b : Bool) → eqb (indicator b) 1 ≡ b
    one true = refl
    one false = refl
