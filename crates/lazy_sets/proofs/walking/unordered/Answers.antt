-- Of the columns of a write, one after another.
use mathlib.Core.Path.{refl, ◌∙◌}
use mathlib.Core.Bool.{not, ◌&&◌}
use Rattle.theory.specs.order.Limits.{tasks}
use Rattle.theory.specs.fillings.Completion.{bit}
use Rattle.requests.specs.lazy.Fold.{by_write, column}
use Rattle.std.proofs.Common.{rules}
use Rattle.std.proofs.lemmas.Iterator.{YieldsList-from_range}
use Rattle.std.proofs.lemmas.Iterator.Search.{any_from_yields_List}
use Rattle.lazy_sets.proofs.Any.{any_in_range}
use Rattle.lazy_sets.proofs.walking.unordered.Goals as goal

pub returns : goal.returns
returns c =
    let a = c.args in
    any_from_yields_List (λ u. bit a.pairs (column by_write u) && not (bit a.own (column by_write u))) _ _ _ c.any.ensures.ran (YieldsList-from_range 0 tasks tasks refl refl) (λ x b q k. search rules)
    ∙ any_in_range _ tasks
