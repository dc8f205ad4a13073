-- By its kind.
use mathlib.Core.Path.{sym, ◌∙◌}
use native.Mathlib.Omega.{arith}
use Rattle.requests.specs.lazy.Fold.{acted}
use Rattle.lazy_sets.proofs.kept.LazySets.act.Goals as goal

pub returns-then-passes_on : goal.returns-then-passes_on
unfolding acted
returns-then-passes_on c =
    rw (sym c.passes_on.ensures ∙ c.if-passes_on.true, ← c.weight.ensures.0 (omega (arith, c.args.a.in_range.task_fits))) c.walk_over.ensures

pub returns-else-passes_on : goal.returns-else-passes_on
unfolding acted
returns-else-passes_on c =
    rw (sym c.passes_on.ensures ∙ c.if-passes_on.false, ← c.weight.ensures.0 (omega (arith, c.args.a.in_range.task_fits))) c.other_act.ensures
