-- `reading::entry_form::record_number`: what follows the name is read. Assumes nothing.
use mathlib.Core.Path.{sym, ap, ◌∙◌}
use Rattle.text.specs.EntryForm.{rec_name, read_record_number, record_field}
use Rattle.text.proofs.LineForm.{named, unnamed}
use Rattle.reading.proofs.Std.{stripped}
use Rattle.reading.proofs.entry_form.record_number.Goals as goal

pub returns-in_err-strip_prefix : goal.returns-in_err-strip_prefix
unfolding record_field
returns-in_err-strip_prefix c =
    c.from_residual.ensures ∙ sym (unnamed read_record_number rec_name _ (sym (stripped rec_name _) ∙ c.in_err-strip_prefix.ensures.cases))

pub returns : goal.returns
unfolding record_field
returns c =
    let after = c.in_ok-strip_prefix.ensures.cases in
    c.read_record_number.ensures ∙ ap read_record_number after.1 ∙ sym (named read_record_number rec_name _ (sym (stripped rec_name _) ∙ after.0))
