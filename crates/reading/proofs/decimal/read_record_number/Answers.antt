-- `reading::decimal::read_record_number` is the test of the length, and the digits. Assumes nothing.
use mathlib.Core.Path.{sym, ◌∙◌}
use Rattle.text.specs.EntryForm.{read_record_number}
use Rattle.text.proofs.EntryForm.{wide_fits}
use Rattle.reading.proofs.decimal.read_record_number.Goals as goal

pub read_digits-requires : goal.read_digits-requires
read_digits-requires c = wide_fits _ (sym c.record_wide.ensures ∙ c.if-record_wide.true)

pub returns-then-record_wide : goal.returns-then-record_wide
unfolding read_record_number
returns-then-record_wide c = rw (sym c.record_wide.ensures ∙ c.if-record_wide.true) c.read_digits.ensures

pub returns-else-record_wide : goal.returns-else-record_wide
unfolding read_record_number
returns-else-record_wide c = rw (sym c.record_wide.ensures ∙ c.if-record_wide.false)
