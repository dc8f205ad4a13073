-- `reading::words::four`: four bytes likewise. Assumes nothing.
use mathlib.Core.Path.{ap, ◌∙◌}
use Rattle.std.proofs.Common.{rules}
use Rattle.text.specs.Bytes.{little}
use Rattle.reading.proofs.Std.{little_four}
use Rattle.reading.proofs.words.four.Goals as goal

pub returns : goal.returns
returns c = c.from_le_bytes.ensures ∙ little_four _ (search rules) ∙ ap little c.bytes_at.ensures
