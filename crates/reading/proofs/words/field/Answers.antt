-- `reading::words::field`: what follows the name is read. Assumes nothing.
use mathlib.Core.Path.{sym, ap, ◌∙◌}
use Rattle.text.specs.LineForm.{read_decimal, field_of}
use Rattle.text.proofs.LineForm.{named, unnamed}
use Rattle.reading.proofs.Std.{stripped}
use Rattle.reading.proofs.words.field.Goals as goal

pub returns-in_err-strip_prefix : goal.returns-in_err-strip_prefix
unfolding field_of
returns-in_err-strip_prefix c =
    c.from_residual.ensures ∙ sym (unnamed read_decimal _ _ (sym (stripped _ _) ∙ c.in_err-strip_prefix.ensures.cases))

pub returns : goal.returns
unfolding field_of
returns c =
    let after = c.in_ok-strip_prefix.ensures.cases in
    c.read_decimal.ensures ∙ ap read_decimal after.1 ∙ sym (named read_decimal _ _ (sym (stripped _ _) ∙ after.0))
