-- `reading::decimal::read_digits`: the number so far and the bytes that are left say what the whole says. Assumes nothing.
use mathlib.Core.Path.{◌≡◌, sym, ◌∙◌}
use mathlib.Core.Bool.{true}
use Prim.Native.Nat.{ℕ, ◌+◌, ◌*◌, ◌-◌, ◌^◌, ◌≤◌, ◌<◌}
use native.Mathlib.Omega.{arith}
use lib.ListN.{get_or}
use Rattle.text.specs.LineForm.{is_digit}
use Rattle.text.specs.Printing.{record_digits}
use Rattle.text.proofs.Numerals.{a_digit, digit_fits, power_fits, read_digit, read_other, read_all}
use Rattle.reading.proofs.decimal.read_digits.Goals as goal

pub returns-then-not-is_ascii_digit : goal.returns-then-not-is_ascii_digit
returns-then-not-is_ascii_digit c =
    sym (c.loop-b.invariant.1 ∙ read_other _ _ _ c.loop-b-test.true (sym c.is_ascii_digit.ensures.value ∙ c.if-not-is_ascii_digit.true))

-- the byte is a digit, and the number with it is below the next power of ten
below_next : (v b i : ℕ) → v < 10 ^ i → i < record_digits → is_digit b ≡ true → v * 10 + (b - 48) < 10 ^ record_digits
below_next v b i h k d =
    let longer : v * 10 + (b - 48) < 10 ^ (i + 1) = digit_fits v b i h (a_digit b d) in
    let within : 10 ^ (i + 1) ≤ 10 ^ record_digits = power_fits _ record_digits (omega arith) in
    omega arith

pub overflow_mul-v : goal.overflow_mul-v
overflow_mul-v c =
    let at = c.loop-b in
    omega (arith, below_next at.v (get_or c.args.s.now at.b-index 0) at.b-index at.invariant.0 (omega arith) (sym c.is_ascii_digit.ensures.value ∙ c.if-not-is_ascii_digit.false))

pub overflow_add-v : goal.overflow_add-v
overflow_add-v c =
    let at = c.loop-b in
    omega (
      arith,
      c.from.ensures,
      below_next at.v (get_or c.args.s.now at.b-index 0) at.b-index at.invariant.0 (omega arith) (sym c.is_ascii_digit.ensures.value ∙ c.if-not-is_ascii_digit.false),
    )

pub loop-b-preserved : goal.loop-b-preserved
loop-b-preserved c =
    let at = c.loop-b in
    let passed : is_digit (get_or c.args.s.now at.b-index 0) ≡ true = sym c.is_ascii_digit.ensures.value ∙ c.if-not-is_ascii_digit.false in
    rw c.from.ensures (digit_fits at.v _ at.b-index at.invariant.0 (a_digit _ passed), at.invariant.1 ∙ read_digit _ _ _ c.loop-b-test.true passed)

pub returns : goal.returns
returns c = sym (c.loop-b.invariant.1 ∙ read_all _ _ _ c.loop-b-test.false)
