-- Either word by the test. Assumes nothing.
use mathlib.Core.Path.{refl}
use Rattle.text.specs.Printing.{bytes}
use Rattle.text.proofs.Bytes.{all_below}
use Rattle.report.proofs.Judging.{told_so}
use Rattle.report.proofs.telling.told_race.Goals as goal

pub returns-then-x : goal.returns-then-x
unfolding all_below
returns-then-x c = rw c.if-x.true (told_so (bytes "known") (bytes "  ") _ _ _ c.told_by_word.ensures refl refl)

pub returns : goal.returns
unfolding all_below
returns c = rw c.if-x.false (told_so (bytes "race") (bytes "   ") _ _ _ c.told_by_word-2.ensures refl refl)
