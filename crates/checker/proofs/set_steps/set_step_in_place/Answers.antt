-- A refused record leaves all as it was; of an accepted one the calls' equations are put together.
use mathlib.Core.Path.{sym, ◌∙◌}
use native.Mathlib.Omega.{arith}
use Rattle.theory.specs.tables.Reckonings.{masks_by}
use Rattle.theory.proofs.feeding.Parts.{set_stepped}
use Rattle.theory.proofs.history.Accesses.{of_access}
use Rattle.theory.proofs.tables.Bits.{halved_mask}
use Rattle.theory.proofs.tables.Ranges.{access_acts}
use Rattle.acceptance.proofs.Admits.{admits, accepted_by, set_refused_step}
use Rattle.checker.proofs.Accepting.{other_by}
use Rattle.checker.proofs.set_steps.set_step_in_place.Goals as goal

pub returns-in-Err : goal.returns-in-Err
returns-in-Err c =
    let a = c.args in
    let e = c.admit.ensures in
    set_refused_step a.control.now a.last.now a.sets.now a.fullsets.now a.r e.0 e.1 c.in-Err.is

pub of-access-requires : goal.of-access-requires
of-access-requires c =
    let a = c.args in
    let e = c.admit.ensures in
    let x = admits a.control.now a.r e.0 e.1 c.in-Ok.is in
    let h = sym c.is_access.ensures ∙ c.if-is_access.true in
    of_access (x.accepted.proper.act_fits (access_acts a.r.kind h)) h

pub returns-then-is_access : goal.returns-then-is_access
returns-then-is_access c =
    let a = c.args in
    let e = c.admit.ensures in
    let x = admits a.control.now a.r e.0 e.1 c.in-Ok.is in
    let h = sym c.is_access.ensures ∙ c.if-is_access.true in
    let is = c.of-access.ensures in
    let q = rw (is.0, is.1, is.2) at c.accept_access.ensures in
    let masks = rw (is.0, is.1, is.2) at c.access_masks.ensures in
    let moved = rw (is.0, is.1, is.2) at c.access_by_sets.ensures in
    let w = c.from-words.ensures in
    set_stepped a.control.now a.last.now a.r x.refusal (accepted_by x q.0 q.1 q.2) a.sets.now a.fullsets.now
    (rw ((halved_mask w.0 (omega arith)).0, (halved_mask w.1 (omega arith)).0, h) masks) moved.0 moved.1

-- what is no access
pub move_sets-requires : goal.move_sets-requires
move_sets-requires c =
    let a = c.args in
    let e = c.admit.ensures in
    let x = admits a.control.now a.r e.0 e.1 c.in-Ok.is in
    (sym c.is_access.ensures ∙ c.if-is_access.false, x.accepted.proper)

pub accept_other-requires : goal.accept_other-requires
accept_other-requires c =
    let a = c.args in
    let e = c.admit.ensures in
    let x = admits a.control.now a.r e.0 e.1 c.in-Ok.is in
    (sym c.is_access.ensures ∙ c.if-is_access.false, x.accepted.proper)

pub returns : goal.returns
returns c =
    let a = c.args in
    let e = c.admit.ensures in
    let x = admits a.control.now a.r e.0 e.1 c.in-Ok.is in
    let h = sym c.is_access.ensures ∙ c.if-is_access.false in
    let q = c.accept_other.ensures in
    let moved = c.move_sets.ensures in
    set_stepped a.control.now a.last.now a.r x.refusal (other_by (masks_by 0 0) x h q.0 q.1) a.sets.now a.fullsets.now
    (rw h) moved.0 moved.1
