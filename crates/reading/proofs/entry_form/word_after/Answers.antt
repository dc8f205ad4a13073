-- `reading::entry_form::word_after`: what follows the spaces is cut at the next one. Assumes nothing.
use Rattle.text.proofs.EntryForm.{word_cut}
use Rattle.reading.proofs.entry_form.word_after.Goals as goal

pub returns : goal.returns
returns c = word_cut _ _ _ c.place_of.result c.after_spaces-rest.ensures c.place_of.ensures.0
