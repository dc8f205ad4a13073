-- `reading::decimal::read_short`: each test leaves one case of the definition. Assumes nothing.
use mathlib.Core.Path.{sym, ◌∙◌}
use Rattle.text.proofs.Numerals.{a_digit, short_first, short_last, short_low, short_read}
use Rattle.reading.proofs.decimal.read_short.Goals as goal

pub returns-then-not-is_ascii_digit : goal.returns-then-not-is_ascii_digit
returns-then-not-is_ascii_digit c =
    sym (short_first c.args.s.now c.requires.0 c.requires.1 (sym c.is_ascii_digit.ensures.value ∙ c.if-not-is_ascii_digit.true))

pub returns-then-not-is_ascii_digit-2 : goal.returns-then-not-is_ascii_digit-2
returns-then-not-is_ascii_digit-2 c =
    sym (short_last c.args.s.now c.requires.0 c.requires.1
    (sym c.is_ascii_digit.ensures.value ∙ c.if-not-is_ascii_digit.false)
    (sym c.is_ascii_digit-2.ensures.value ∙ c.if-not-is_ascii_digit-2.true))

pub returns-then-v-least : goal.returns-then-v-least
returns-then-v-least c =
    sym (short_low c.args.s.now c.requires.0 c.requires.1 (a_digit _ (sym c.is_ascii_digit.ensures.value ∙ c.if-not-is_ascii_digit.false))
    (rw (← c.from.ensures, ← c.from-2.ensures) c.if-v-least.true))

pub returns : goal.returns
returns c =
    rw (c.from.ensures, c.from-2.ensures)
    (sym (short_read c.args.s.now c.requires.0 c.requires.1
    (sym c.is_ascii_digit.ensures.value ∙ c.if-not-is_ascii_digit.false)
    (sym c.is_ascii_digit-2.ensures.value ∙ c.if-not-is_ascii_digit-2.false)
    (rw (← c.from.ensures, ← c.from-2.ensures) c.if-v-least.false)))
