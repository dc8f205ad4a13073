-- A copy of the hub is put into what a mark can release to, row by row: the named tasks', and every object's.
use mathlib.Core.Path.{refl, ◌∙◌, sym}
use native.Mathlib.Omega.{arith}
use borrow.Author.Tests.{lt-ltb}
use Rattle.theory.specs.tables.Rows.{hub, spread}
use Rattle.theory.proofs.basics.Turns.{one_turn, all_turns}
use Rattle.theory.proofs.tables.NamedRows.{released_at_object}
use Rattle.theory.proofs.tables.NamedTurns.{no_named_turn, one_named_turn, all_named_turns, idle_spread, row_put}
use Rattle.theory.specs.order.Limits.{tasks}
use Rattle.checker.proofs.marks.Marking.spread.Goals as goal

pub loop-left-init : goal.loop-left-init
loop-left-init g c = (sym c.row_of-hub.ensures, no_named_turn c.lower_half-left.ensures refl)

pub loop-left-preserved : goal.loop-left-preserved
loop-left-preserved g c =
    let mask = c.args.mask in
    let low = c.lowest.ensures in
    let i = c.loop-left.invariant in
    let put = rw c.task_row.ensures at c.put_row.ensures in (
      rw put (row_put g.row.WIDTH hub _ _ _ (λ e. omega (arith, low.1)) ∙ i.0),
      one_named_turn (idle_spread g.row.WIDTH mask i.0) i.1 (low.0 c.loop-left-test.true, low.1) c.without_lowest-left.ensures.0 (λ named. rw (lt-ltb _ tasks low.1, named) put),
    )

pub loop-r-init : goal.loop-r-init
loop-r-init g c = λ b t. t

pub loop-r-preserved : goal.loop-r-preserved
loop-r-preserved g c =
    λ b t. one_turn (c.loop-r.invariant b t) (rw (released_at_object c.args.mask c.loop-r.r (omega arith)) c.put_row-in-loop-r.ensures)

pub returns : goal.returns
unfolding spread
returns g c =
    let mask = c.args.mask in
    let i = c.loop-left.invariant in
    let named = all_named_turns (idle_spread g.row.WIDTH mask i.0) i.1 c.loop-left-test.false in
    rw (← c.row_of-hub.ensures) (all_turns hub (c.loop-r.invariant _ named) (omega arith) (omega arith))
