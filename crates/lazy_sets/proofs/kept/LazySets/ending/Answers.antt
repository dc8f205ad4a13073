-- The task of an access that is accepted is one of the tasks.
use mathlib.Core.Path.{refl, sym, ◌∙◌}
use Rattle.theory.proofs.acceptance.Accepted.{accepts}
use Rattle.theory.proofs.tables.Ranges.{access_acts}
use Rattle.lazy_sets.proofs.kept.LazySets.ending.Goals as goal

pub told-requires : goal.told-requires
told-requires c =
    let a = c.args in
    let p = (accepts a.control.now a.q _ refl (sym c.in_ok-refusal.ensures)).proper in
    (p.act_fits (access_acts a.q.kind (sym c.is_access.ensures ∙ c.if-is_access.true))).task_fits
