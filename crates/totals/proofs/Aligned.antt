-- Padded text and numbers in their columns: digit by digit, and how long they are.
use mathlib.Core.Path.{◌≡◌, refl, sym, ap, ◌∙◌}
use mathlib.Core.Bool.{Bool, true, false}
use mathlib.Core.List.{List, [], ◌∷◌, ◌++◌, append_assoc}
use Prim.Native.Nat.{ℕ, ◌+◌, ◌-◌, ◌/◌, ◌^◌, ◌≤◌, ◌<◌, max}
use native.Mathlib.Omega.{arith}
use lib.Dec.{ltb}
use lib.ListN.{length, replicate, take, drop, length-append, length-replicate}
use lib.Seq.{sets-eq, take_all}
use borrow.Rule.Slice.PartMut.{put_mid}
use borrow.Author.Tests.{ltb-true, ltb-false}
use Rattle.std.proofs.lemmas.Slice.{put_mid-paste}
use Rattle.text.specs.LineForm.{space}
use Rattle.text.specs.Wrote.{Wrote}
use Rattle.text.specs.Printing.{last_digit, decimal}
use Rattle.text.proofs.Digits.{decimal_small, decimal_more, length_small, length_more, decimal_fits}
use Rattle.totals.specs.Table.{padded, right_aligned}

-- a part of a memory, written over whole
pub wrote_part : {l m : List ℕ} {at k to : ℕ} (bs : List ℕ) → m ≡ bs → k ≡ length bs → to ≡ at + length bs → at + length bs ≤ length l → Wrote l at bs (put_mid at k l m) to
wrote_part {l} {m} {at} {k} bs e f g h =
    record {
      place = g;
      memory = put_mid-paste at k l m bs (length bs) e (sym f) refl
          ∙ ap (λ (t : List ℕ). take at l ++ t ++ drop (at + length bs) l) (take_all (length bs) bs (omega arith)) ∙ sym (sets-eq bs l at h);
    }

pub length_padded : (spaces : ℕ) (s : List ℕ) → length (padded spaces s) ≡ spaces + length s
length_padded spaces s = simp (length-append, length-replicate)

-- every number has a digit
pub decimal_some : (n : ℕ) → 0 < length (decimal n)
decimal_some n = picked (ltb n 10) refl
  where
    picked : (b : Bool) → ltb n 10 ≡ b → 0 < length (decimal n)
    picked true e = omega (arith, length_small n (ltb-true n 10 e))
    picked false e = omega (arith, length_more n (ltb-false n 10 e))

-- A number beside its last digit: `left` is what the column has left there
module _ (width left n : ℕ) (e : left ≡ max 1 (width - 1)) where
  -- one of one digit
  pub aligned_small : n < 10 → right_aligned width n ≡ padded left (last_digit n ∷ [])
  unfolding right_aligned
  aligned_small h = rw (length_small n h, decimal_small n h, ← e) refl

  -- one of more: its tenth, and its last digit
  pub aligned_more : 10 ≤ n → right_aligned width n ≡ right_aligned left (n / 10) ++ (last_digit n ∷ [])
  unfolding right_aligned
  aligned_more h =
      let some : 0 < length (decimal (n / 10)) = decimal_some (n / 10) in
      let same : max 1 (width - (length (decimal (n / 10)) + 1)) ≡ max 1 (left - length (decimal (n / 10))) = omega arith in
      rw (length_more n h, decimal_more n h, same)
      (sym (append_assoc (replicate (max 1 (left - length (decimal (n / 10)))) space) (decimal (n / 10)) (last_digit n ∷ [])))

  pub length_aligned_small : n < 10 → length (right_aligned width n) ≡ left + 1
  length_aligned_small h = ap length (aligned_small h) ∙ length_padded left (last_digit n ∷ [])

  pub length_aligned_more : 10 ≤ n → length (right_aligned width n) ≡ length (right_aligned left (n / 10)) + 1
  length_aligned_more h = ap length (aligned_more h) ∙ length-append (right_aligned left (n / 10)) (last_digit n ∷ [])

-- a number of 64 bits has 20 digits at most, and a space before it
pub aligned_fits : (width n : ℕ) → width ≤ 21 → n < 2 ^ 64 → length (right_aligned width n) ≤ 21
unfolding right_aligned
aligned_fits width n h g = omega (arith, length_padded (max 1 (width - length (decimal n))) (decimal n), decimal_fits 19 n (omega arith))
