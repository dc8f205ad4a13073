-- A refused record changes nothing; an accepted one is filled in by each task.
use mathlib.Core.Path.{sym, ◌∙◌}
use native.Mathlib.Omega.{arith}
use Rattle.theory.proofs.acceptance.Accepted.{accepts}
use Rattle.checker.proofs.Unsettled.{fine_unrefused}
use Rattle.checker.proofs.settling.feed_homes.Goals as goal

-- once no row applies
pub overflow_add-control : goal.overflow_add-control
overflow_add-control c =
    let none = fine_unrefused _ (sym c.is_ok.ensures.value ∙ c.if-is_ok.true) in
    omega (arith, (accepts c.args.control.now c.args.r _ c.refusal.ensures none).room)

pub fill_each-requires : goal.fill_each-requires
fill_each-requires c =
    let none = fine_unrefused _ (sym c.is_ok.ensures.value ∙ c.if-is_ok.true) in
    (accepts c.args.control.now c.args.r _ c.refusal.ensures none).proper
