-- Numbers in base ten, read from digits and printed. Assumes nothing.
use mathlib.Core.Path.{◌≡◌, refl, sym, ap, ap₂, ◌∙◌}
use mathlib.Core.Bool.{Bool, true, false, cond, not, ◌&&◌, ◌||◌}
use mathlib.Core.List.{List, [], ◌∷◌}
use Prim.Native.Nat.{ℕ, zero, suc, ◌+◌, ◌*◌, ◌-◌, ◌/◌, ◌^◌, ◌≤◌, ◌<◌}
use native.Mathlib.Nat.{pow-suc, pow-le-pow_right, div-one, div-eq_of_lt}
use native.Mathlib.Numerals.{add-one}
use native.Mathlib.Omega.{arith}
use lib.Dec.{leb, ltb, eqb}
use lib.ListN.{length, get_or, drop, drop_of_length-le}
use lib.Seq.{drop-cons}
use borrow.Author.Tests.{leb-true, eqb-true, le-leb, lt-leb, lt-ltb, le-ltb, eq-eqb, ne_eqb, eqb-false, not-true}
use Rattle.std.proofs.lemmas.Option.{none-some}
use Rattle.std.specs.Prelude.{Option, Some, None}
use Rattle.text.specs.LineForm.{digits, is_digit, is_plain, read_digits, read_decimal}
use Rattle.text.specs.Printing.{last_digit, last_digits, decimal}
use Rattle.text.proofs.Bytes.{and_true}
use Rattle.text.proofs.Digits.{divide_more, none_above, some_above, digits_long, fits_digits, width_of}

-- Digits

pub record Digit (b : ℕ) : Type 0 where
  pub low : 48 ≤ b
  pub high : b ≤ 57

pub a_digit : (b : ℕ) → is_digit b ≡ true → Digit b
a_digit b e = let (f, g) = and_true (leb 48 b) (leb b 57) e in record { low = leb-true 48 b f; high = leb-true b 57 g }

-- one more digit makes a number below the next power of ten
pub digit_fits : (v b i : ℕ) → v < 10 ^ i → Digit b → v * 10 + (b - 48) < 10 ^ (i + 1)
digit_fits v b i h d = rw (add-one i, pow-suc 10 i) (omega arith)

pub power_fits : (i k : ℕ) → i ≤ k → 10 ^ i ≤ 10 ^ k
power_fits i k h = pow-le-pow_right {n = 10} (omega arith) h

-- Reading from place i on

module _ (v : ℕ) (s : List ℕ) (i : ℕ) where
  pub read_digit : i < length s → is_digit (get_or s i 0) ≡ true → read_digits v (drop i s) ≡ read_digits (v * 10 + (get_or s i 0 - 48)) (drop (i + 1) s)
  unfolding read_digits
  read_digit h e = rw (add-one i, drop-cons s i 0 h, e)

  pub read_other : i < length s → is_digit (get_or s i 0) ≡ false → read_digits v (drop i s) ≡ None
  unfolding read_digits
  read_other h e = rw (drop-cons s i 0 h, e)

  pub read_all : length s ≤ i → read_digits v (drop i s) ≡ Some v
  unfolding read_digits
  read_all h = rw (drop_of_length-le s h)

-- Plain numbers

pub plain_fits : (s : List ℕ) → is_plain s ≡ true → length s ≤ digits
unfolding is_plain
plain_fits s e = picked (eqb (length s) 1) refl e
  where
    picked : (t : Bool) → eqb (length s) 1 ≡ t → (t || (ltb 1 (length s) && (leb (length s) digits && not (eqb (get_or s 0 0) 48)))) ≡ true → length s ≤ digits
    picked true f e = omega (arith, eqb-true (length s) 1 f)
    picked false f e =
        let (g, h) = and_true (ltb 1 (length s)) (leb (length s) digits && not (eqb (get_or s 0 0) 48)) e in
        leb-true (length s) digits (and_true (leb (length s) digits) (not (eqb (get_or s 0 0) 48)) h).0

module _ (s : List ℕ) where
  pub plain_none : length s ≡ 0 → is_plain s ≡ false
  unfolding is_plain
  plain_none h = rw (ne_eqb (length s) 1 (omega arith), le-ltb 1 (length s) (omega arith))

  pub plain_one : length s ≡ 1 → is_plain s ≡ true
  unfolding is_plain
  plain_one h = rw (eq-eqb (length s) 1 h)

  pub plain_long : digits < length s → is_plain s ≡ false
  unfolding is_plain
  plain_long h = rw (ne_eqb (length s) 1 (omega arith), lt-ltb 1 (length s) (omega arith), lt-leb (length s) digits h)

  pub plain_some : 1 < length s → length s ≤ digits → is_plain s ≡ not (eqb (get_or s 0 0) 48)
  unfolding is_plain
  plain_some h k = rw (ne_eqb (length s) 1 (omega arith), lt-ltb 1 (length s) h, le-leb (length s) digits k)

  pub decimal_plain : is_plain s ≡ true → read_decimal s ≡ read_digits 0 s
  unfolding read_decimal
  decimal_plain e = rw e

  pub decimal_other : is_plain s ≡ false → read_decimal s ≡ None
  unfolding read_decimal
  decimal_other e = rw e

-- One or two bytes: the first counts ten times where it is not the last

nothing : (t : Bool) → cond {A = Option ℕ} t None None ≡ None
nothing true = refl
nothing false = refl

abbrev pub short_least : List ℕ → ℕ
short_least s = (length s - 1) * 10

abbrev pub short_value : List ℕ → ℕ
short_value s = short_least s * (get_or s 0 0 - 48) + (get_or s (length s - 1) 0 - 48)

pub short_fits : (s : List ℕ) → length s ≤ 2 → Digit (get_or s 0 0) → Digit (get_or s (length s - 1) 0) → short_value s < 100
short_fits [] k d e = omega arith
short_fits (a ∷ []) k d e = omega (arith, d)
short_fits (a ∷ (b ∷ [])) k d e = omega (arith, d, e)
short_fits (a ∷ (b ∷ (c ∷ s))) k d e = absurd (omega arith)

pub short_first : (s : List ℕ) → 0 < length s → length s ≤ 2 → is_digit (get_or s 0 0) ≡ false → read_decimal s ≡ None
unfolding read_decimal is_plain read_digits
short_first [] h k e = absurd (omega arith)
short_first (a ∷ []) h k e = rw e
short_first (a ∷ (b ∷ [])) h k e = rw e (nothing (not (eqb a 48)))
short_first (a ∷ (b ∷ (c ∷ s))) h k e = absurd (omega arith)

pub short_last : (s : List ℕ) → 0 < length s → length s ≤ 2 → is_digit (get_or s 0 0) ≡ true → is_digit (get_or s (length s - 1) 0) ≡ false → read_decimal s ≡ None
unfolding read_decimal is_plain read_digits
short_last [] h k d e = absurd (omega arith)
short_last (a ∷ []) h k d e = rw e
short_last (a ∷ (b ∷ [])) h k d e = rw (d, e) (nothing (not (eqb a 48)))
short_last (a ∷ (b ∷ (c ∷ s))) h k d e = absurd (omega arith)

pub short_low : (s : List ℕ) → 0 < length s → length s ≤ 2 → Digit (get_or s 0 0) → short_value s < short_least s → read_decimal s ≡ None
unfolding read_decimal is_plain read_digits
short_low [] h k d l = absurd (omega arith)
short_low (a ∷ []) h k d l = absurd (omega arith)
short_low (a ∷ (b ∷ [])) h k d l = rw (eq-eqb a 48 (omega (arith, d)))
short_low (a ∷ (b ∷ (c ∷ s))) h k d l = absurd (omega arith)

pub short_read : (s : List ℕ) → 0 < length s → length s ≤ 2 → is_digit (get_or s 0 0) ≡ true → is_digit (get_or s (length s - 1) 0) ≡ true
    → short_least s ≤ short_value s → read_decimal s ≡ Some (short_value s)
unfolding read_decimal is_plain read_digits
short_read [] h k d e l = absurd (omega arith)
short_read (a ∷ []) h k d e l = rw d (ap Some (omega arith))
short_read (a ∷ (b ∷ [])) h k d e l =
    rw (ne_eqb a 48 (λ q. omega (arith, q, l, a_digit b e)), d, e) (ap Some (omega arith))
short_read (a ∷ (b ∷ (c ∷ s))) h k d e l = absurd (omega arith)

-- Reading and printing

-- a number that a test lets through
pub let_through : (t : Bool) (x : Option ℕ) (n : ℕ) → cond t x None ≡ Some n → (t ≡ true) × (x ≡ Some n)
let_through true x n e = (refl, e)
let_through false x n e = absurd (none-some n e)

-- what was read before the digits is what stands above them
pub read_above : (v n : ℕ) (s : List ℕ) → read_digits v s ≡ Some n → n / 10 ^ length s ≡ v
unfolding read_digits
read_above v n [] e = let q : v ≡ n = cc in div-one n ∙ sym q
read_above v n (b ∷ s) e =
    let (d, f) = let_through (is_digit b) (read_digits (v * 10 + (b - 48)) s) n e in
    let g = a_digit b d in
    let h : n / 10 ^ length s ≡ v * 10 + (b - 48) = read_above (v * 10 + (b - 48)) n s f in
    divide_more n (length s) ∙ rw h (omega arith)

-- what was read is printed again
pub read_printed : (v n : ℕ) (s : List ℕ) → read_digits v s ≡ Some n → s ≡ last_digits (length s) n
unfolding read_digits last_digits
read_printed v n [] e = refl
read_printed v n (b ∷ s) e =
    let (d, f) = let_through (is_digit b) (read_digits (v * 10 + (b - 48)) s) n e in
    let g = a_digit b d in
    let h : n / 10 ^ length s ≡ v * 10 + (b - 48) = read_above (v * 10 + (b - 48)) n s f in
    let q : b ≡ last_digit (n / 10 ^ length s) = rw h (omega arith) in
    ap₂ (λ (x : ℕ) (l : List ℕ). x ∷ l) q (read_printed (v * 10 + (b - 48)) n s f)

is_digit_lem : (b : ℕ) → 48 ≤ b → b ≤ 57 → is_digit b ≡ true
is_digit_lem b h k = rw (le-leb 48 b h, le-leb b 57 k)

-- what was printed is read again, after what stands above it
pub printed_read : (v n k : ℕ) → v ≡ n / 10 ^ k → read_digits v (last_digits k n) ≡ Some n
unfolding read_digits last_digits
printed_read v n zero e = ap Some (e ∙ div-one n)
printed_read v n (suc k) e =
    let q : v * 10 + (last_digit (n / 10 ^ k) - 48) ≡ n / 10 ^ k = omega (arith, divide_more n k) in
    rw (is_digit_lem (last_digit (n / 10 ^ k)) (omega arith) (omega arith)) (printed_read (v * 10 + (last_digit (n / 10 ^ k) - 48)) n k q)

-- Numbers without leading zeros

-- the first digit of a number that fills its digits is no `0`
first_digit : (n k : ℕ) → 10 ^ k ≤ n → n < 10 ^ suc k → last_digit (n / 10 ^ k) ≡ 48 → ⊥
first_digit n k l h e =
    let z : n / 10 ^ suc k ≡ 0 = div-eq_of_lt h in
    let q : n / 10 ^ k ≡ 0 = omega (arith, divide_more n k) in
    omega (arith, none_above n k q)

printed_plain : (n w : ℕ) → w < digits → n < 10 ^ suc w → (0 < w → 10 ^ w ≤ n) → is_plain (last_digits (suc w) n) ≡ true
unfolding last_digits
printed_plain n zero h u l = plain_one (last_digits 1 n) (digits_long 1 n)
printed_plain n (suc k) h u l =
    let e : length (last_digits (suc (suc k)) n) ≡ suc (suc k) = digits_long (suc (suc k)) n in
    plain_some (last_digits (suc (suc k)) n) (omega arith) (omega arith)
    ∙ ap not (ne_eqb (last_digit (n / 10 ^ suc k)) 48 (first_digit n (suc k) (l (omega arith)) u))

-- the text of a number is read as that number
pub decimal_read : (n : ℕ) → n < 10 ^ digits → read_decimal (decimal n) ≡ Some n
unfolding decimal
decimal_read n h =
    let (w, f, g) = fits_digits (digits - 1) n h in
    ap (λ (k : ℕ). read_decimal (last_digits k n)) f.wide
    ∙ decimal_plain (last_digits (suc w) n) (printed_plain n w (omega arith) f.below f.filled)
    ∙ printed_read 0 n (suc w) (sym (div-eq_of_lt f.below))

plain_first : (b : ℕ) (s : List ℕ) → is_plain (b ∷ s) ≡ true → 0 < length s → b ≡ 48 → ⊥
plain_first b s e h =
    let f : length (b ∷ s) ≤ digits = plain_fits (b ∷ s) e in
    eqb-false b 48 (not-true (eqb b 48) (sym (plain_some (b ∷ s) (omega arith) f) ∙ e))

-- so that the number fills its digits
first_counts : (b : ℕ) (s : List ℕ) (n : ℕ) → is_plain (b ∷ s) ≡ true → read_digits 0 (b ∷ s) ≡ Some n → 0 < length s → 10 ^ length s ≤ n
unfolding read_digits
first_counts b s n p f h =
    let (d, g) = let_through (is_digit b) (read_digits (0 * 10 + (b - 48)) s) n f in
    let q : n / 10 ^ length s ≡ 0 * 10 + (b - 48) = read_above (0 * 10 + (b - 48)) n s g in
    some_above n (length s) (omega (arith, a_digit b d, plain_first b s p h))

no_number : (n : ℕ) → read_decimal [] ≡ Some n → ⊥
unfolding read_decimal is_plain
no_number n e = none-some n e

-- what is read as a number is the text of that number, which has at most 5 digits
pub record Printed (s : List ℕ) (n : ℕ) : Type 0 where
  pub is : s ≡ decimal n
  pub short : n < 10 ^ digits

pub read_decimal_lem : (s : List ℕ) (n : ℕ) → read_decimal s ≡ Some n → Printed s n
unfolding read_decimal decimal
read_decimal_lem [] n e = absurd (no_number n e)
read_decimal_lem (b ∷ s) n e =
    let (p, f) = let_through (is_plain (b ∷ s)) (read_digits 0 (b ∷ s)) n e in
    let k : length (b ∷ s) ≤ digits = plain_fits (b ∷ s) p in
    let u : n < 10 ^ suc (length s) = none_above n (suc (length s)) (read_above 0 n (b ∷ s) f) in
    record {
      is = read_printed 0 n (b ∷ s) f ∙ ap (λ (m : ℕ). last_digits m n) (sym (width_of (length s) n (first_counts b s n p f) u));
      short = omega (arith, pow-le-pow_right {n = 10} (omega arith) {i = suc (length s)} {j = digits} k);
    }
