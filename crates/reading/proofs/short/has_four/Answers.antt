-- `reading::short::has_four`: four bytes that make the same number are the same. Assumes nothing.
use mathlib.Core.Path.{sym, ◌∙◌}
use borrow.Author.Tests.{eqb-true}
use Rattle.text.proofs.Places.{says_four}
use Rattle.reading.proofs.short.has_four.Goals as goal

pub returns : goal.returns
returns c =
    λ e. says_four c.args.s.now c.args.p c.args.word.now c.requires.0 c.requires.1
    (λ i. (c.type_inv.s i).fits) (λ i. (c.type_inv.word i).fits)
    (sym c.four.ensures ∙ eqb-true _ _ e ∙ c.four-2.ensures)
