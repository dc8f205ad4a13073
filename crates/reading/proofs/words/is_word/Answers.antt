-- `reading::words::is_word`: of two lists that differ in length or in the first element the one is not the other. Assumes nothing.
use mathlib.Core.Path.{sym, ◌∙◌}
use borrow.Author.Tests.{eqb-false}
use Rattle.reading.proofs.Std.{other_length, other_first}
use Rattle.reading.proofs.words.is_word.Goals.{then-s-word, else-s-word}
use Rattle.reading.proofs.words.is_word.Goals as goal

pub returns-else-s-word-2 : goal.returns-else-s-word-2
returns-else-s-word-2 c =
    elim c.if-s-word.branch [
      | then-s-word w ↦ c.if-s-word-2.false
          ∙ sym (other_first c.args.word.now c.args.s.now c.requires w.if-s-word.true (eqb-false _ _ (sym w.value-is ∙ c.if-s-word-2.false)))
      | else-s-word w ↦ c.if-s-word-2.false ∙ sym (other_length c.args.word.now c.args.s.now w.if-s-word.false)
    ]
