-- `reading::parsing::parse_mark`: the record is made of what the field says. Assumes nothing.
use mathlib.Core.Path.{sym, ap, ◌∙◌}
use Rattle.text.specs.LineForm.{mark_record, parse_mark}
use Rattle.reading.proofs.parsing.parse_mark.Goals as goal

pub returns-in_err-on : goal.returns-in_err-on
unfolding parse_mark
returns-in_err-on c = c.from_residual.ensures ∙ ap mark_record (sym c.in_err-on.was ∙ c.field.ensures)

pub returns : goal.returns
unfolding parse_mark
returns c = ap mark_record (sym c.in_ok-on.was ∙ c.field.ensures)
