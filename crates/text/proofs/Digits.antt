-- The digits of a number: how they come about, and how many there are. Assumes nothing.
use mathlib.Core.Path.{◌≡◌, refl, ap, ap₂, sym, ◌∙◌}
use mathlib.Core.Bool.{Bool, true, false}
use mathlib.Core.List.{List, [], ◌∷◌, ◌++◌}
use Prim.Native.Nat.{ℕ, zero, suc, ◌+◌, ◌*◌, ◌/◌, ◌^◌, ◌≤◌, ◌<◌}
use native.Mathlib.Nat.{pow-suc, one-le-pow, mul_comm, div-one, div-div-eq-div-mul, div-eq_of_lt, div-lt_iff_lt-mul}
use native.Mathlib.Omega.{arith}
use lib.Dec.{leb, ltb}
use lib.ListN.{length, length-append}
use borrow.Author.Tests.{leb-true, leb-false, lt-ltb, le-ltb, ltb-true, ltb-false}
use Rattle.text.specs.Printing.{last_digit, last_digits, width_in, width, decimal, record_text}

-- Division by powers of ten

pub divide_more : (n k : ℕ) → n / 10 ^ suc k ≡ n / 10 ^ k / 10
divide_more n k = rw (pow-suc 10 k) (sym (div-div-eq-div-mul n (10 ^ k) 10))

-- the same, the last digit first
divide_tenth : (n k : ℕ) → n / 10 ^ suc k ≡ n / 10 / 10 ^ k
divide_tenth n k = rw (pow-suc 10 k, mul_comm (10 ^ k) 10) (sym (div-div-eq-div-mul n 10 (10 ^ k)))

pub none_above : (n k : ℕ) → n / 10 ^ k ≡ 0 → n < 10 ^ k
none_above n k e = let h : n < 1 * 10 ^ k = (div-lt_iff_lt-mul {y = 1} (one-le-pow k 10 (omega arith))).0 (omega arith) in omega arith

pub some_above : (n k : ℕ) → 0 < n / 10 ^ k → 10 ^ k ≤ n
some_above n k h = picked (leb (10 ^ k) n) refl
  where
    picked : (t : Bool) → leb (10 ^ k) n ≡ t → 10 ^ k ≤ n
    picked true e = leb-true (10 ^ k) n e
    picked false e = absurd (omega (arith, div-eq_of_lt (leb-false (10 ^ k) n e)))

-- The last digits

pub digits_long : (k n : ℕ) → length (last_digits k n) ≡ k
unfolding last_digits
digits_long zero n = refl
digits_long (suc k) n = ap suc (digits_long k n)

-- the digits of the tenth, and the last one
digits_more : (k n : ℕ) → last_digits (suc k) n ≡ last_digits k (n / 10) ++ (last_digit n ∷ [])
unfolding last_digits
digits_more zero n = ap (λ (m : ℕ). last_digit m ∷ []) (div-one n)
digits_more (suc k) n = ap₂ (λ (m : ℕ) (ds : List ℕ). last_digit m ∷ ds) (divide_tenth n k) (digits_more k n)

-- those of a record number, one by one
pub record_digits_lem : (n : ℕ) → record_text n ≡ last_digit (n / 1_000_000) ∷ last_digit (n / 100_000) ∷ last_digit (n / 10_000) ∷ last_digit (n / 1000) ∷ last_digit (n / 100) ∷ last_digit (n / 10) ∷ last_digit n ∷ []
unfolding last_digits
record_digits_lem n = rw (div-one n)

-- How many digits there are

module _ (most n : ℕ) where
  in_small : n < 10 → width_in (suc most) n ≡ 1
  unfolding width_in
  in_small h = rw (lt-ltb n 10 h, width_in)

  in_more : 10 ≤ n → width_in (suc most) n ≡ suc (width_in most (n / 10))
  unfolding width_in
  in_more h = rw (le-ltb n 10 h, width_in)

-- any two counts above the number give the same
enough : (k m n : ℕ) → n < k → n < m → width_in k n ≡ width_in m n
enough zero m n h g = absurd (omega arith)
enough (suc k) zero n h g = absurd (omega arith)
enough (suc k) (suc m) n h g = go (ltb n 10) refl (enough k m (n / 10))
  where
    go : (b : Bool) → ltb n 10 ≡ b → (n / 10 < k → n / 10 < m → width_in k (n / 10) ≡ width_in m (n / 10)) → width_in (suc k) n ≡ width_in (suc m) n
    go true e less = let l : n < 10 = ltb-true n 10 e in in_small k n l ∙ sym (in_small m n l)
    go false e less =
        let l : 10 ≤ n = ltb-false n 10 e in
        in_more k n l ∙ ap suc (less (omega arith) (omega arith)) ∙ sym (in_more m n l)

width_small : (n : ℕ) → n < 10 → width n ≡ 1
unfolding width
width_small n h = in_small n n h

width_more : (n : ℕ) → 10 ≤ n → width n ≡ suc (width (n / 10))
unfolding width
width_more n h = in_more n n h ∙ ap suc (enough n (suc (n / 10)) (n / 10) (omega arith) (omega arith))

-- the number has suc w digits: it is below the next power of ten, and fills them where they are more than one
pub record Fills (n w : ℕ) : Type 0 where
  pub wide : width n ≡ suc w
  pub below : n < 10 ^ suc w
  pub filled : 0 < w → 10 ^ w ≤ n

-- a number below 10 ^ suc k has at most suc k digits
pub fits_digits : (k n : ℕ) → n < 10 ^ suc k → (w : ℕ) × Fills n w × (w ≤ k)
fits_digits zero n h = (0, record { wide = width_small n h; below = h; filled = λ p. absurd (omega arith) }, omega arith)
fits_digits (suc k) n h = go (ltb n 10) refl (fits_digits k (n / 10))
  where
    at_least : (w : ℕ) → 10 ≤ n → (0 < w → 10 ^ w ≤ n / 10) → 10 ^ w ≤ n / 10
    at_least zero l a = omega arith
    at_least (suc w) l a = a (omega arith)

    go : (b : Bool) → ltb n 10 ≡ b → (n / 10 < 10 ^ suc k → (w : ℕ) × Fills (n / 10) w × (w ≤ k)) → (w : ℕ) × Fills n w × (w ≤ suc k)
    go true e less = let l : n < 10 = ltb-true n 10 e in (0, record { wide = width_small n l; below = l; filled = λ p. absurd (omega arith) }, omega arith)
    go false e less =
        let l : 10 ≤ n = ltb-false n 10 e in
        let p : 10 ^ suc (suc k) ≡ 10 ^ suc k * 10 = pow-suc 10 (suc k) in
        let (w, f, g) = less (omega arith) in
        let b : n / 10 < 10 ^ suc w = f.below in
        let a : 10 ^ w ≤ n / 10 = at_least w l f.filled in (
          suc w,
          record {
            wide = width_more n l ∙ ap suc f.wide;
            below = omega (arith, pow-suc 10 (suc w));
            filled = λ q. omega (arith, pow-suc 10 w);
          },
          omega arith,
        )

pub width_of : (w n : ℕ) → (0 < w → 10 ^ w ≤ n) → n < 10 ^ suc w → width n ≡ suc w
width_of zero n l h = width_small n h
width_of (suc w) n l h =
    let p : 10 ^ suc w ≡ 10 ^ w * 10 = pow-suc 10 w in
    let q : 10 ^ suc (suc w) ≡ 10 ^ suc w * 10 = pow-suc 10 (suc w) in
    let a : 10 ^ suc w ≤ n = l (omega arith) in
    let z : 0 < 10 ^ w = one-le-pow w 10 (omega arith) in
    width_more n (omega arith) ∙ ap suc (width_of w (n / 10) (λ _. omega arith) (omega arith))

-- Without leading zeros

-- below ten a number is one digit
pub decimal_small : (n : ℕ) → n < 10 → decimal n ≡ last_digit n ∷ []
unfolding decimal last_digits
decimal_small n h = rw (width_small n h, div-one n)

-- from ten on, the digits of its tenth and the last one
pub decimal_more : (n : ℕ) → 10 ≤ n → decimal n ≡ decimal (n / 10) ++ (last_digit n ∷ [])
unfolding decimal
decimal_more n h = ap (λ (k : ℕ). last_digits k n) (width_more n h) ∙ digits_more (width (n / 10)) n

pub length_small : (n : ℕ) → n < 10 → length (decimal n) ≡ 1
length_small n h = ap length (decimal_small n h)

pub length_more : (n : ℕ) → 10 ≤ n → length (decimal n) ≡ length (decimal (n / 10)) + 1
length_more n h = ap length (decimal_more n h) ∙ length-append (decimal (n / 10)) (last_digit n ∷ [])

-- a number below 10 ^ k has at most k digits, for each k from 1 on
pub decimal_fits : (k n : ℕ) → n < 10 ^ suc k → length (decimal n) ≤ suc k
unfolding decimal
decimal_fits k n h = let (w, f, g) = fits_digits k n h in omega (arith, digits_long (width n) n, f.wide)
