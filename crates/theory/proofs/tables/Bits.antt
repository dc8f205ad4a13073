-- Masks of 16 tasks, built from the highest bit down or summed from the lowest up. Assumes nothing.
use mathlib.Core.Path.{◌≡◌, refl, sym, ◌∙◌, ap}
use mathlib.Core.Bool.{Bool, true, false, cond, not, ◌&&◌}
use Prim.Native.Nat.{ℕ, zero, suc, ◌+◌, ◌*◌, ◌-◌, ◌^◌, ◌/◌, ◌%◌, ◌≤◌, ◌<◌, zero-le, suc-le-suc, min}
use native.Mathlib.Nat.{pow-suc, add-mul, mul_assoc, zero-mul}
use native.Mathlib.Numerals.{add-one}
use native.Mathlib.Omega.{arith}
use lib.Count.{count_trailing_zeros, under, trailing_of_zero}
use lib.Bits.{bit_and, bit_or, and_step, and_le_l, and_mod, or_block, or_shifted_r, or_zero_r}
use lib.Dec.{eqb}
use borrow.Author.Tests.{eq-eqb, ne_eqb}
use lib.Pow.{pow_mono, pow-lt, shr-shr}
use Rattle.theory.specs.fillings.Completion.{bit}
use Rattle.theory.specs.basics.Turns.{turns, indicator}
use Rattle.theory.specs.tables.Reckonings.{mask_of, masks_by, lowest_task}
use Rattle.theory.specs.order.Limits.{tasks}
use Rattle.theory.proofs.basics.Reflects.{Reflects, right, wrong, equal}

-- a mask of i bits with one more
mask_next : (i m b : ℕ) → m < 2 ^ i → b ≤ 1 → b + 2 * m < 2 ^ (i + 1)
mask_next i m b h l = rw (add-one i) (omega (arith, pow-suc 2 i))

-- the lowest bit of a number that is not 0 is one of its bits
pub trailing_lt : (k n : ℕ) → ¬ (n ≡ 0) → n < 2 ^ k → count_trailing_zeros k n < k
unfolding count_trailing_zeros
trailing_lt zero n h l = absurd (h (omega arith))
trailing_lt (suc k) n h l = decided (n % 2) refl (trailing_lt k (n / 2))
  where
    decided : (d : ℕ) → n % 2 ≡ d → (¬ (n / 2 ≡ 0) → n / 2 < 2 ^ k → count_trailing_zeros k (n / 2) < k) → under d (count_trailing_zeros k (n / 2)) < suc k
    decided zero e below = suc-le-suc (below (λ q. h (omega arith)) (omega (arith, pow-suc 2 k)))
    decided (suc d) e below = suc-le-suc zero-le

-- The mask of a test

-- the highest n of the 16 tasks that pass the test, as a mask: bit k is that of task 16 - n + k
abbrev upper : (ℕ → Bool) → ℕ → ℕ
upper p n = turns n (λ i m. indicator (p (tasks - 1 - i)) + 2 * m) 0

bit_le : (b : Bool) → indicator b ≤ 1
bit_le true = omega arith
bit_le false = omega arith

upper_lt : (p : ℕ → Bool) (n : ℕ) → upper p n < 2 ^ n
unfolding turns
upper_lt p zero = omega arith
upper_lt p (suc n) = rw (add-one n) at (mask_next n (upper p n) (indicator (p (tasks - 1 - n))) (upper_lt p n) (bit_le (p (tasks - 1 - n))))

-- one more bit below a mask
trailing_next : (n b m : ℕ) → b ≤ 1 → count_trailing_zeros (suc n) (b + 2 * m) ≡ under b (count_trailing_zeros n m)
unfolding count_trailing_zeros
trailing_next n b m h =
    let r : (b + 2 * m) % 2 ≡ b = omega arith in
    let q : (b + 2 * m) / 2 ≡ m = omega arith in
    rw (r, q)

-- a count of zeros in a mask of the highest n tasks: the tasks below it fail, and that at it passes
record Lowest (p : ℕ → Bool) (n z : ℕ) : Type 0 where
  below : (k : ℕ) → k < z → p (tasks - n + k) ≡ false
  here : z < n → p (tasks - n + z) ≡ true

lowest_next : (p : ℕ → Bool) (n z : ℕ) (b : Bool) → n < tasks → p (tasks - 1 - n) ≡ b → Lowest p n z → Lowest p (suc n) (under (indicator b) z)
lowest_next p n z true h e l =
    record { below = λ k i. absurd (omega arith); here = λ i. let q : tasks - suc n + 0 ≡ tasks - 1 - n = omega arith in rw q e }
lowest_next p n z false h e l = record { below = below; here = λ i. let q : tasks - suc n + suc z ≡ tasks - n + z = omega arith in rw q (l.here (omega arith)) }
  where
    below : (k : ℕ) → k < suc z → p (tasks - suc n + k) ≡ false
    below zero i = let q : tasks - suc n + 0 ≡ tasks - 1 - n = omega arith in rw q e
    below (suc k) i = let q : tasks - suc n + suc k ≡ tasks - n + k = omega arith in rw q (l.below k (omega arith))

lowest : (p : ℕ → Bool) (n : ℕ) → n ≤ tasks → Lowest p n (count_trailing_zeros n (upper p n))
unfolding turns
lowest p zero h = record { below = λ k i. absurd (none i); here = λ i. absurd (omega arith) }
  where
    none : {k : ℕ} → k < count_trailing_zeros zero 0 → ⊥
    none i = omega (arith, trailing_of_zero 0)
lowest p (suc n) h =
    rw (trailing_next n (indicator (p (tasks - 1 - n))) (upper p n) (bit_le (p (tasks - 1 - n))))
    (lowest_next p n (count_trailing_zeros n (upper p n)) (p (tasks - 1 - n)) (omega arith) refl (lowest p n (omega arith)))

pub mask_lt : (p : ℕ → Bool) → mask_of p < 2 ^ tasks
unfolding mask_of
mask_lt p = upper_lt p tasks

-- so are the masks of a record, which only an access has
pub masks_lt : (access : Bool) (p q : ℕ → Bool) → let m = cond access (masks_by (mask_of p) (mask_of q)) (masks_by 0 0) in (m.full < 2 ^ tasks) × (m.arrived < 2 ^ tasks)
masks_lt true p q = (mask_lt p, mask_lt q)
masks_lt false p q = (omega arith, omega arith)

lowest_of : (p : ℕ → Bool) → Lowest p tasks (lowest_task (mask_of p))
unfolding mask_of
lowest_of p = lowest p tasks (omega arith)

-- no task passes the test of an empty mask
pub mask_none : (p : ℕ → Bool) → mask_of p ≡ 0 → (u : ℕ) → u < tasks → p u ≡ false
mask_none p e u h =
    let z : lowest_task (mask_of p) ≡ tasks = rw e (trailing_of_zero tasks) in
    let q : tasks - tasks + u ≡ u = omega arith in
    rw q at ((lowest_of p).below u (omega arith))

-- the lowest task of any other is the lowest that passes
pub mask_lowest : (p : ℕ → Bool) → ¬ (mask_of p ≡ 0) →
    (lowest_task (mask_of p) < tasks) × (p (lowest_task (mask_of p)) ≡ true) × ((u : ℕ) → u < lowest_task (mask_of p) → p u ≡ false)
mask_lowest p n =
    let h : lowest_task (mask_of p) < tasks = trailing_lt tasks (mask_of p) n (mask_lt p) in (
      h,
      rw (from_zero (lowest_task (mask_of p))) at ((lowest_of p).here h),
      λ u i. rw (from_zero u) at ((lowest_of p).below u i),
    )
  where
    from_zero : (u : ℕ) → tasks - tasks + u ≡ u
    from_zero u = omega arith

upper_ext : (p q : ℕ → Bool) → ((u : ℕ) → u < tasks → p u ≡ q u) → (n : ℕ) → upper p n ≡ upper q n
unfolding turns
upper_ext p q e zero = refl
upper_ext p q e (suc n) = rw (e (tasks - 1 - n) (omega arith), upper_ext p q e n)

-- tests that agree on the tasks have one mask
pub mask_ext : (p q : ℕ → Bool) → ((u : ℕ) → u < tasks → p u ≡ q u) → mask_of p ≡ mask_of q
unfolding mask_of
mask_ext p q e = upper_ext p q e tasks

-- A mask without the bits of a word

-- with one bit more below both
lower_without : (b : Bool) (m x : ℕ) {y o : ℕ} → x / 2 ≡ y → m - bit_and m y ≡ o → indicator b + 2 * m - bit_and (indicator b + 2 * m) x ≡ indicator (b && not (eqb (x % 2) 1)) + 2 * o
lower_without b m x {y} e q = rw (and_step (indicator b + 2 * m) x, half b, odd b, e, ← q) (of b (x % 2) (bit_and m y) (and_le_l m y) (omega arith))
  where
    half : (b : Bool) → (indicator b + 2 * m) / 2 ≡ m
    half true = omega arith
    half false = omega arith

    odd : (b : Bool) → (indicator b + 2 * m) % 2 ≡ indicator b
    odd true = omega arith
    odd false = omega arith

    of : (b : Bool) (d a : ℕ) → a ≤ m → d < 2 → indicator b + 2 * m - (a * 2 + min (indicator b) d) ≡ indicator (b && not (eqb d 1)) + 2 * (m - a)
    of true zero a l h = omega arith
    of true (suc zero) a l h = omega arith
    of true (suc (suc d)) a l h = absurd (omega arith)
    of false d a l h = omega arith

upper_without : (p : ℕ → Bool) (x n : ℕ) → n ≤ tasks → upper p n - bit_and (upper p n) (x / 2 ^ (tasks - n)) ≡ upper (λ u. p u && not (bit x u)) n
unfolding turns
upper_without p x zero h = omega arith
upper_without p x (suc n) h =
    let e : tasks - suc n ≡ tasks - 1 - n = omega arith in
    let f : tasks - 1 - n + 1 ≡ tasks - n = omega arith in
    let half : x / 2 ^ (tasks - 1 - n) / 2 ≡ x / 2 ^ (tasks - n) = rw (← f) (shr-shr x (tasks - 1 - n) 1) in
    rw e (lower_without (p (tasks - 1 - n)) (upper p n) (x / 2 ^ (tasks - 1 - n)) half (upper_without p x n (omega arith)))

without : (p : ℕ → Bool) (x : ℕ) → mask_of p - bit_and (mask_of p) x ≡ mask_of (λ u. p u && not (bit x u))
unfolding mask_of
without p x = let e : x / 2 ^ (tasks - tasks) ≡ x = omega arith in rw e at (upper_without p x tasks (omega arith))

-- the tasks that pass and have no bit in the word
pub mask_without : (p : ℕ → Bool) (x : ℕ) → mask_of p - bit_and (mask_of p) (x % 2 ^ tasks) ≡ mask_of (λ u. p u && not (bit x u))
mask_without p x =
    let h = mask_lt p in
    let l = and_le_l (mask_of p) x in
    let e : mask_of p % 2 ^ tasks ≡ mask_of p = omega arith in
    let f : bit_and (mask_of p) x % 2 ^ tasks ≡ bit_and (mask_of p) x = omega arith in
    let low : bit_and (mask_of p) (x % 2 ^ tasks) ≡ bit_and (mask_of p) x = sym (rw (f, e) at (and_mod (mask_of p) x tasks)) in
    rw low (without p x)

-- The mask as a sum

-- what the tasks below u that pass the test add up to
abbrev sums : (ℕ → Bool) → ℕ → ℕ
sums p u = turns u (λ v m. m + indicator (p v) * 2 ^ v) 0

pub record BitsSummed (p : ℕ → Bool) (u m : ℕ) : Type 0 where
  pub room : m < 2 ^ u
  pub is : m ≡ sums p u

sum_lt : (u m : ℕ) (b : Bool) → m < 2 ^ u → m + indicator b * 2 ^ u < 2 ^ (u + 1)
sum_lt u m true h = rw (add-one u) (omega (arith, pow-suc 2 u))
sum_lt u m false h = rw (add-one u) (omega (arith, pow-suc 2 u))

module _ {p : ℕ → Bool} where
  pub no_sum : BitsSummed p 0 0
  unfolding turns
  no_sum = record { room = omega arith; is = refl }

  pub one_sum : {u m r : ℕ} {b : Bool} → BitsSummed p u m → r ≡ indicator b * 2 ^ u → b ≡ p u → BitsSummed p (u + 1) (m + r)
  unfolding turns
  one_sum {u} {m} {b = b} s e t = record { room = rw e (sum_lt u m b s.room); is = rw (add-one u) (rw (e, t, s.is)) }

  pub sum_fits : {u m : ℕ} → BitsSummed p u m → u ≤ tasks → m < 2 ^ tasks
  sum_fits {u} s h = let q : 2 ^ u ≤ 2 ^ tasks = pow_mono h in omega (arith, s.room)

-- the highest n tasks above the sum of the others make the whole mask
sums_upper : (p : ℕ → Bool) (k n : ℕ) → n + k ≡ tasks → upper p n * 2 ^ k + sums p k ≡ upper p tasks
unfolding turns
sums_upper p zero n e = let q : n ≡ tasks = omega arith in rw q (omega arith)
sums_upper p (suc k) n e =
    let q : tasks - 1 - n ≡ k = omega arith in
    shifted (upper p n) (2 ^ k) (indicator (p k)) (sums p k) (pow-suc 2 k)
    ∙ (rw q at (sums_upper p k (suc n) (omega arith)))
  where
    shifted : (x y b t : ℕ) {z : ℕ} → z ≡ y * 2 → x * z + (t + b * y) ≡ (b + 2 * x) * y + t
    shifted x y b t e = rw e (omega (arith, mul_assoc x y 2, add-mul b (2 * x) y, mul_assoc 2 x y))

upper_none : (p : ℕ → Bool) → upper p 0 ≡ 0
unfolding turns
upper_none p = refl

sums_all : (p : ℕ → Bool) (n : ℕ) → n ≡ tasks → sums p n ≡ upper p tasks
sums_all p n e = let z : upper p 0 * 2 ^ n ≡ 0 = rw (upper_none p) (zero-mul (2 ^ n)) in omega (arith, sums_upper p n 0 (omega arith))

pub all_sums : {p : ℕ → Bool} {u m : ℕ} → BitsSummed p u m → u ≤ tasks → tasks ≤ u → m ≡ mask_of p
unfolding mask_of
all_sums {p} {u} s h l = s.is ∙ sums_all p u (omega arith)

-- The mask as an "or" of weights that stand twice in a word, which the compiler makes vector code of: as a sum, or with single bits, it
-- does not

-- a mask in both halves of a word
abbrev pub twice : ℕ → ℕ
twice m = m * 2 ^ tasks + m

-- a word that is 0 only where its lower half is
pub record Halved (x : ℕ) : Type 0 where
  pub empty : x % 2 ^ tasks ≡ 0 → x ≡ 0

pub halved_twice : {x m : ℕ} → x ≡ twice m → m < 2 ^ tasks → (x % 2 ^ tasks ≡ m) × Halved x
halved_twice {x} {m} e h =
    let low : x % 2 ^ tasks ≡ m = omega arith in
    (low, record { empty = λ z. omega arith })

pub halved_empty : {x : ℕ} → Halved x → eqb (x % 2 ^ tasks) 0 ≡ eqb x 0
halved_empty {x} h = decided (equal x 0)
  where
    decided : {b : Bool} → Reflects (x ≡ 0) b → eqb (x % 2 ^ tasks) 0 ≡ b
    decided (right z) = eq-eqb (x % 2 ^ tasks) 0 (omega arith)
    decided (wrong d) = ne_eqb (x % 2 ^ tasks) 0 (λ z. d (h.empty z))

pub halved_none : {x : ℕ} → x ≡ 0 → Halved x
halved_none e = record { empty = λ _. e }

pub halved_mask : {x m : ℕ} → x ≡ m → m < 2 ^ tasks → (x % 2 ^ tasks ≡ m) × Halved x
halved_mask e h = (omega arith, record { empty = λ z. omega arith })

pub record Gathered (p : ℕ → Bool) (u x : ℕ) : Type 0 where
  pub m : ℕ
  pub summed : BitsSummed p u m
  pub twice : x ≡ m * 2 ^ tasks + m

module _ {p : ℕ → Bool} where
  pub no_weights : Gathered p 0 0
  no_weights = record { m = 0; summed = no_sum; twice = refl }

  pub one_weight : {u x r : ℕ} {b : Bool} → u < tasks → Gathered p u x → r ≡ indicator b * (2 ^ u * 2 ^ tasks + 2 ^ u) → b ≡ p u → Gathered p (u + 1) (bit_or x r)
  one_weight {u} {x} {r} {b} h g e t = record { m = g.m + indicator b * 2 ^ u; summed = one_sum g.summed refl t; twice = rw (g.twice, e) (of b) }
    where
      room : g.m < 2 ^ tasks
      room = sum_fits g.summed (omega arith)

      weight : 2 ^ u < 2 ^ tasks
      weight = pow-lt h

      of : (b : Bool) → bit_or (g.m * 2 ^ tasks + g.m) (indicator b * (2 ^ u * 2 ^ tasks + 2 ^ u)) ≡ (g.m + indicator b * 2 ^ u) * 2 ^ tasks + (g.m + indicator b * 2 ^ u)
      of true =
          let one : 1 * (2 ^ u * 2 ^ tasks + 2 ^ u) ≡ 2 ^ u * 2 ^ tasks + 2 ^ u = omega arith in
          let joined : bit_or g.m (2 ^ u) ≡ g.m + 1 * 2 ^ u = single in
          rw (one, or_block tasks g.m (2 ^ u) g.m (2 ^ u) room weight, joined)
        where
          single : bit_or g.m (2 ^ u) ≡ g.m + 1 * 2 ^ u
          single = let q : bit_or g.m (1 * 2 ^ u) ≡ 1 * 2 ^ u + g.m = or_shifted_r 1 u g.m g.summed.room in let z : 1 * 2 ^ u ≡ 2 ^ u = omega arith in rw (← z) (q ∙ omega arith)
      of false =
          let none : 0 * (2 ^ u * 2 ^ tasks + 2 ^ u) ≡ 0 = zero-mul (2 ^ u * 2 ^ tasks + 2 ^ u) in
          let same : g.m + 0 * 2 ^ u ≡ g.m = omega (arith, zero-mul (2 ^ u)) in
          rw (none, same) (or_zero_r (g.m * 2 ^ tasks + g.m))

  pub all_weights : {u x : ℕ} → Gathered p u x → u ≤ tasks → tasks ≤ u → x % 2 ^ tasks ≡ mask_of p
  all_weights {u} {x} g h l =
      let room = sum_fits g.summed h in
      let low : x % 2 ^ tasks ≡ g.m = omega (arith, g.twice) in
      low ∙ all_sums g.summed h l

  -- the whole word: it is empty only where the mask is
  pub all_twice : {u x : ℕ} → Gathered p u x → u ≤ tasks → tasks ≤ u → x ≡ twice (mask_of p)
  all_twice g h l = g.twice ∙ ap twice (all_sums g.summed h l)
