-- The column of the ending access, then that of a write.
use mathlib.Core.Path.{◌≡◌, ◌∙◌, ap}
use native.Mathlib.Omega.{arith}
use Rattle.requests.specs.lazy.Fold.{by_end, by_write, column, keep_on}
use Rattle.lazy_sets.specs.AsLazy.{as_lazy}
use Rattle.lazy_sets.proofs.kept.LazySets.keep_anew.Goals as goal

pub returns : goal.returns
unfolding keep_on
returns c =
    let q = c.args.q in
    let a = c.args.a in
    let own : column by_end a.task.0 ≡ a.task.0 = omega arith in
    let asks = rw q.in_range.is_access_lem at c.ask_at.ensures.0 in
    let first : as_lazy c.keep_on.new.self ≡ keep_on q.record a.kind a.task.0 by_end (as_lazy c.args.self.now) = rw own (rw asks at c.keep_on.ensures) in
    rw (c.ask_at-2.ensures.0, c.write_column.ensures) at c.keep_on-2.ensures ∙ ap (keep_on q.record a.kind a.task.0 by_write) first
