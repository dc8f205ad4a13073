-- `reading::decimal::read_decimal`: a plain part is read. Assumes nothing.
use mathlib.Core.Path.{sym, ◌∙◌}
use native.Mathlib.Omega.{arith}
use Rattle.text.proofs.Numerals.{plain_fits, decimal_plain, decimal_other}
use Rattle.reading.proofs.decimal.read_decimal.Goals as goal

pub read_digits-requires : goal.read_digits-requires
read_digits-requires c = omega (arith, plain_fits _ (sym c.is_plain.ensures ∙ c.if-is_plain.true))

pub returns-then-is_plain : goal.returns-then-is_plain
returns-then-is_plain c = c.read_digits.ensures ∙ sym (decimal_plain _ (sym c.is_plain.ensures ∙ c.if-is_plain.true))

pub returns-else-is_plain : goal.returns-else-is_plain
returns-else-is_plain c = sym (decimal_other _ (sym c.is_plain.ensures ∙ c.if-is_plain.false))
