-- `reading::words::little_endian`: eight bytes are the same number in either word. Assumes nothing.
use mathlib.Core.Path.{◌∙◌}
use Rattle.std.proofs.Common.{rules}
use Rattle.reading.proofs.Std.{little_eight}
use Rattle.reading.proofs.words.little_endian.Goals as goal

pub returns : goal.returns
returns c = c.from_le_bytes.ensures ∙ little_eight _ (search rules)
