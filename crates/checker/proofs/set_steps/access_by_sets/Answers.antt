-- It acquires from and releases to no other row.
use mathlib.Core.Bool.{true, false}
use borrow.Author.Tests.{ne_eqb}
use Rattle.theory.specs.tables.Reckonings.{slot_words, set_own}
use Rattle.theory.proofs.tables.Rows.{same_or}
use Rattle.theory.proofs.tables.Onward.{onward_kept}
use Rattle.theory.proofs.tables.Ranges.{access_acts, access_keeps}
use Rattle.checker.proofs.set_steps.access_by_sets.Goals as goal

pub returns : goal.returns
returns c =
    let a = c.args in
    let k = a.access.kind in
    let t = a.access.task.0 in
    let v = a.access.variable.0 in
    let p = a.access.in_range in
    let keeps = access_keeps k p.is_access_lem in
    let act = ne_eqb _ _ (access_acts k p.is_access_lem) in (
      simp act (onward_kept same_or slot_words false k t v (set_own k t v a.sets.now) c.own.ensures keeps p.task_fits),
      simp act (onward_kept same_or slot_words true k t v (set_own k t v a.fullsets.now) c.own-2.ensures keeps p.task_fits),
    )
