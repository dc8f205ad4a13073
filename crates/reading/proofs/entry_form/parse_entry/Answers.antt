-- `reading::entry_form::parse_entry`: the entry is made of what the fields say. Assumes nothing.
use mathlib.Core.Path.{◌≡◌, refl, sym, ap, ◌∙◌}
use mathlib.Core.List.{List}
use Prim.Native.Nat.{ℕ}
use Rattle.std.specs.Prelude.{Option}
use Rattle.text.specs.EntryForm.{word_after, record_field, marked_entry}
use Rattle.text.proofs.EntryForm.{fields_read}
use Rattle.reading.proofs.entry_form.parse_entry.Goals as goal

record_read : (s w : List ℕ) (n : Option ℕ) → w ≡ word_after 0 s → n ≡ record_field w → record_field (word_after 0 s) ≡ n
record_read s w n e f = ap record_field (sym e) ∙ sym f

pub returns-in_err-rec : goal.returns-in_err-rec
returns-in_err-rec c =
    c.from_residual.ensures ∙ sym (fields_read _ (record_read _ _ _ c.word_after.ensures c.record_number.ensures ∙ c.in_err-rec.was) refl refl refl)

pub returns-in_err-var : goal.returns-in_err-var
returns-in_err-var c =
    c.from_residual-in_err-var.ensures
    ∙ sym (fields_read _ (record_read _ _ _ c.word_after.ensures c.record_number.ensures ∙ c.in_ok-rec.was)
    (sym c.word_field.ensures ∙ c.in_err-var.was) refl refl)

pub returns-in_err-low : goal.returns-in_err-low
returns-in_err-low c =
    c.from_residual-in_err-low.ensures
    ∙ sym (fields_read _ (record_read _ _ _ c.word_after.ensures c.record_number.ensures ∙ c.in_ok-rec.was)
    (sym c.word_field.ensures ∙ c.in_ok-var.was) (sym c.word_field-2.ensures ∙ c.in_err-low.was) refl)

pub returns-in_err-high : goal.returns-in_err-high
returns-in_err-high c =
    c.from_residual-in_err-high.ensures
    ∙ sym (fields_read _ (record_read _ _ _ c.word_after.ensures c.record_number.ensures ∙ c.in_ok-rec.was)
    (sym c.word_field.ensures ∙ c.in_ok-var.was) (sym c.word_field-2.ensures ∙ c.in_ok-low.was)
    (sym c.word_field-3.ensures ∙ c.in_err-high.was))

pub returns : goal.returns
returns c =
    c.marked_entry.ensures ∙ ap (marked_entry _ _ _ _) c.after_spaces.ensures
    ∙ sym (fields_read _ (record_read _ _ _ c.word_after.ensures c.record_number.ensures ∙ c.in_ok-rec.was)
    (sym c.word_field.ensures ∙ c.in_ok-var.was) (sym c.word_field-2.ensures ∙ c.in_ok-low.was)
    (sym c.word_field-3.ensures ∙ c.in_ok-high.was))
