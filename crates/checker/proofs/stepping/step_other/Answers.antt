-- A refused record leaves all as it was; of an accepted one the calls' equations are put together.
use mathlib.Core.Path.{sym, ◌∙◌}
use mathlib.Core.Bool.{true≢false}
use Rattle.theory.specs.tables.Reckonings.{masks_by}
use Rattle.theory.proofs.feeding.Parts.{stepped}
use Rattle.theory.proofs.skipping.Code.{moved_proper}
use Rattle.acceptance.proofs.Admits.{admits, refused_step}
use Rattle.checker.proofs.Accepting.{other_by}
use Rattle.checker.proofs.stepping.step_other.Goals as goal

pub returns-in-Err-clause-stepped : goal.returns-in-Err-clause-stepped
returns-in-Err-clause-stepped c =
    let a = c.args in
    let e = c.admit.ensures in
    refused_step a.tables.now.control.now a.tables.now.last.now a.tables.now.clocks.now a.tables.now.fullclocks.now a.r e.0 e.1 c.in-Err.is

-- once no row applies; a take that is skipped is an act of its task, as a miss is
pub move_clocks-requires : goal.move_clocks-requires
move_clocks-requires c =
    let a = c.args in
    let e = c.admit.ensures in
    let x = admits a.tables.now.control.now a.r e.0 e.1 c.in-Ok.is in
    rw x.moves (moved_proper a.tables.now.control.now a.r.kind a.r.task a.r.on x.accepted.proper)

pub accept_other-requires : goal.accept_other-requires
accept_other-requires c =
    let a = c.args in
    let e = c.admit.ensures in
    let x = admits a.tables.now.control.now a.r e.0 e.1 c.in-Ok.is in
    (c.requires, x.accepted.proper)

pub returns-clause-stepped : goal.returns-clause-stepped
returns-clause-stepped c =
    let a = c.args in
    let e = c.admit.ensures in
    let x = admits a.tables.now.control.now a.r e.0 e.1 c.in-Ok.is in
    let q = c.accept_other.ensures in
    let moved = rw (x.moves, x.number) at c.move_clocks.ensures in
    stepped a.tables.now.control.now a.tables.now.last.now a.r x.refusal (other_by (masks_by 0 0) x c.requires q.0 q.1) a.tables.now.clocks.now a.tables.now.fullclocks.now
    (λ h. absurd (true≢false (sym h ∙ c.requires))) moved.0 moved.1
