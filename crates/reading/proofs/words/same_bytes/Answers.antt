-- `reading::words::same_bytes`: the library's equality of bytes is that of the definitions. Assumes nothing.
use mathlib.Core.Path.{◌∙◌}
use Rattle.reading.proofs.Std.{same_word}
use Rattle.reading.proofs.words.same_bytes.Goals as goal

pub returns : goal.returns
returns c = c.eq.ensures ∙ same_word c.args.word.now c.args.s.now
