-- `reading::words::eight`: eight bytes are the same number in either word. Assumes nothing.
use mathlib.Core.Path.{ap, ◌∙◌}
use Rattle.std.proofs.Common.{rules}
use Rattle.text.specs.Bytes.{little}
use Rattle.reading.proofs.Std.{little_eight}
use Rattle.reading.proofs.words.eight.Goals as goal

pub returns : goal.returns
returns c = c.from_le_bytes.ensures ∙ little_eight _ (search rules) ∙ ap little c.bytes_at.ensures
