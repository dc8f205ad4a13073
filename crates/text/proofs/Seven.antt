-- Seven digits at once: numbers stand side by side in a word, each with room for its product. Assumes nothing.
use mathlib.Core.Path.{◌≡◌, sym, ap, ◌∙◌}
use mathlib.Core.List.{[], ◌∷◌}
use Prim.Native.Nat.{ℕ, ◌+◌, ◌*◌, ◌-◌, ◌/◌, ◌%◌, ◌≤◌, ◌<◌}
use native.Mathlib.Nat.{add-mul-mod_self_left, mod-eq_of_lt, div-div-eq-div-mul}
use native.Mathlib.Omega.{arith}
use Rattle.text.specs.Bytes.{little}
use Rattle.text.specs.Words.{side_by_side, digit_pairs, number_word}
use Rattle.text.proofs.Digits.{record_digits_lem}

-- what is left of a multiple and a small number
left_over : (k a y : ℕ) {q : ℕ} → q ≡ a + k * y → a < k → q % k ≡ a
left_over k a y e h = ap (λ (q : ℕ). q % k) e ∙ add-mul-mod_self_left a k y ∙ mod-eq_of_lt h

-- Tenths of numbers below 100, by a product

tenth : (a : ℕ) → a < 100 → a * 103 / 1024 ≡ a / 10
tenth a h = omega arith

first_tenth : (a y : ℕ) → a < 100 → (a + 65536 * y) * 103 / 1024 % 16 ≡ a / 10
first_tenth a y h = left_over 16 (a / 10) (412 * y) (omega (arith, tenth a h)) (omega arith)

later_tenths : (a y : ℕ) → a < 100 → (a + 65536 * y) * 103 / 1024 / 65536 ≡ y * 103 / 1024
later_tenths a y h = omega arith

-- Hundredths of numbers below 10,000 likewise

hundredth : (a : ℕ) → a < 10000 → a * 5243 / 524288 ≡ a / 100
hundredth a h = omega arith

first_hundredth : (a y : ℕ) → a < 10000 → (a + y * 4294967296) * 5243 / 524288 % 128 ≡ a / 100
first_hundredth a y h = left_over 128 (a / 100) (335552 * y) (omega (arith, hundredth a h)) (omega arith)

second_hundredth : (a y : ℕ) → a < 10000 → y < 10000 → (a + y * 4294967296) * 5243 / 524288 / 4294967296 % 128 ≡ y / 100
second_hundredth a y h l = left_over 128 (y / 100) 0 (omega (arith, hundredth y l)) (omega arith)

-- the pairs of digits, from both halves of the number
halves : (h l : ℕ) → (h + l * 4294967296) * 65536 ≡ side_by_side (h / 100) (h % 100) (l / 100) (l % 100) + (h / 100 + l / 100 * 4294967296) * 6553599
halves h l = omega arith

half_pairs : (n : ℕ) → side_by_side (n / 10000 / 100) (n / 10000 % 100) (n % 10000 / 100) (n % 10000 % 100) ≡ digit_pairs n
half_pairs n =
    let e : n / 10000 / 100 ≡ n / 1000000 = div-div-eq-div-mul n 10000 100 in
    let f : n % 10000 / 100 ≡ n / 100 % 100 = omega arith in
    let g : n % 10000 % 100 ≡ n % 100 = omega arith in
    rw (e, f, g)

in_pairs : (n : ℕ) → (n / 10000 + n % 10000 * 4294967296) * 65536 ≡ digit_pairs n + (n / 10000 / 100 + n % 10000 / 100 * 4294967296) * 6553599
in_pairs n = rw (← half_pairs n) (halves (n / 10000) (n % 10000))

-- the tenths of four numbers
module _ (a b c d : ℕ) (p : a < 100) (q : b < 100) (r : c < 100) (s : d < 100) where
  tenth_0 : side_by_side a b c d * 103 / 1024 % 16 ≡ a / 10
  tenth_0 = first_tenth a (b + 65536 * (c + 65536 * d)) p

  tenth_1 : side_by_side a b c d * 103 / 1024 / 65536 % 16 ≡ b / 10
  tenth_1 = ap (λ (k : ℕ). k % 16) (later_tenths a (b + 65536 * (c + 65536 * d)) p) ∙ first_tenth b (c + 65536 * d) q

  later_2 : side_by_side a b c d * 103 / 1024 / 65536 / 65536 ≡ (c + 65536 * d) * 103 / 1024
  later_2 = ap (λ (k : ℕ). k / 65536) (later_tenths a (b + 65536 * (c + 65536 * d)) p) ∙ later_tenths b (c + 65536 * d) q

  tenth_2 : side_by_side a b c d * 103 / 1024 / 4294967296 % 16 ≡ c / 10
  tenth_2 = ap (λ (k : ℕ). k % 16) (sym (div-div-eq-div-mul (side_by_side a b c d * 103 / 1024) 65536 65536) ∙ later_2) ∙ first_tenth c d r

  tenth_3 : side_by_side a b c d * 103 / 1024 / 281474976710656 % 16 ≡ d / 10
  tenth_3 =
      ap (λ (k : ℕ). k % 16)
      (sym (div-div-eq-div-mul (side_by_side a b c d * 103 / 1024) 4294967296 65536)
      ∙ ap (λ (k : ℕ). k / 65536) (sym (div-div-eq-div-mul (side_by_side a b c d * 103 / 1024) 65536 65536) ∙ later_2)
      ∙ later_tenths c d r)
      ∙ left_over 16 (d / 10) 0 (omega (arith, tenth d s)) (omega arith)

-- a record number as one word, by its pairs

first_digit : (m : ℕ) → m / 10 % 10 ≡ m % 100 / 10
first_digit m = omega arith

second_digit : (m : ℕ) → m % 10 ≡ m % 100 % 10
second_digit m = omega arith

digit_word : (a b c d : ℕ) → a < 10
    → little (61 ∷ (a + 48) ∷ (b / 10 + 48) ∷ (b % 10 + 48) ∷ (c / 10 + 48) ∷ (c % 10 + 48) ∷ (d / 10 + 48) ∷ (d % 10 + 48) ∷ [])
    + (a / 10 + b / 10 * 65536 + c / 10 * 4294967296 + d / 10 * 281474976710656) * 2559
    ≡ side_by_side a b c d * 256 + 3472328296227680317
unfolding little
digit_word a b c d h = omega arith

number_word_lem : (n : ℕ) → n < 10000000
    → number_word n + (n / 1000000 / 10 + n / 10000 % 100 / 10 * 65536 + n / 100 % 100 / 10 * 4294967296 + n % 100 / 10 * 281474976710656) * 2559
    ≡ digit_pairs n * 256 + 3472328296227680317
number_word_lem n h =
    let a : n / 1000000 < 10 = omega arith in
    let e : n / 1000000 % 10 ≡ n / 1000000 = mod-eq_of_lt a in
    let f : n / 100000 % 10 ≡ n / 10000 % 100 / 10 = ap (λ (k : ℕ). k % 10) (sym (div-div-eq-div-mul n 10000 10)) ∙ first_digit (n / 10000) in
    let g : n / 1000 % 10 ≡ n / 100 % 100 / 10 = ap (λ (k : ℕ). k % 10) (sym (div-div-eq-div-mul n 100 10)) ∙ first_digit (n / 100) in
    rw (record_digits_lem n, e, f, second_digit (n / 10000), g, second_digit (n / 100), first_digit n, second_digit n)
    (digit_word (n / 1000000) (n / 10000 % 100) (n / 100 % 100) (n % 100) a)

-- What the code works out

difference : (x p y : ℕ) → x ≡ p + y → (y ≤ x) × (x - y ≡ p)
difference x p y e = (omega arith, omega arith)

abbrev pub halves_of : ℕ → ℕ
halves_of n = n / 10000 + n % 10000 * 4294967296

abbrev pub hundreds_in : ℕ → ℕ
hundreds_in x = x * 5243 / 524288 % 128 + x * 5243 / 524288 / 4294967296 % 128 * 4294967296

pub by_hundreds : (n : ℕ) → n < 10000000
    → (hundreds_in (halves_of n) * 6553599 ≤ halves_of n * 65536) × (halves_of n * 65536 - hundreds_in (halves_of n) * 6553599 ≡ digit_pairs n)
by_hundreds n h =
    let l : n % 10000 < 10000 = omega arith in
    difference (halves_of n * 65536) (digit_pairs n) (hundreds_in (halves_of n) * 6553599)
    (rw (first_hundredth (n / 10000) (n % 10000) (omega arith), second_hundredth (n / 10000) (n % 10000) (omega arith) l) (in_pairs n))

abbrev pub tens_in : ℕ → ℕ
tens_in r = r * 103 / 1024 % 16 + r * 103 / 1024 / 65536 % 16 * 65536 + r * 103 / 1024 / 4294967296 % 16 * 4294967296 + r * 103 / 1024 / 281474976710656 % 16 * 281474976710656

pub by_tens : (n r zeros : ℕ) → n < 10000000 → r ≡ digit_pairs n → zeros ≡ 3472328296227680317
    → (tens_in r * 2559 ≤ r * 256 + zeros) × (r * 256 + zeros - tens_in r * 2559 ≡ number_word n)
by_tens n r zeros h e f =
    let a : n / 1000000 < 100 = omega arith in
    let b : n / 10000 % 100 < 100 = omega arith in
    let c : n / 100 % 100 < 100 = omega arith in
    let d : n % 100 < 100 = omega arith in
    difference (r * 256 + zeros) (number_word n) (tens_in r * 2559)
    (rw (e, f, tenth_0 _ _ _ _ a b c d, tenth_1 _ _ _ _ a b c d, tenth_2 _ _ _ _ a b c d, tenth_3 _ _ _ _ a b c d) (sym (number_word_lem n h)))

pub pairs_below : (n : ℕ) → n < 10000000 → digit_pairs n < 28147497671065600
pairs_below n h = below (n / 1000000) (n / 10000 % 100) (n / 100 % 100) (n % 100) (omega arith) (omega arith) (omega arith) (omega arith)
  where
    below : (a b c d : ℕ) → a < 100 → b < 100 → c < 100 → d < 100 → side_by_side a b c d < 28147497671065600
    below a b c d p q r s = omega arith
