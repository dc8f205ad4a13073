-- Column by column: an entry is compared and joined in the same turn, as it was before the pass.
use Prim.Native.Nat.{max}
use native.Mathlib.Omega.{arith}
use Rattle.theory.specs.order.Limits.{tasks}
use Rattle.theory.specs.tables.Rows.{join_row, any_newer}
use Rattle.theory.proofs.basics.Turns.{no_turn, one_turn, all_turns}
use Rattle.theory.proofs.tables.Joining.{column_unread}
use Rattle.checker.proofs.clocks.join_newer.Goals as goal

pub loop-c-init : goal.loop-c-init
loop-c-init c = (no_turn, no_turn)

pub loop-c-preserved : goal.loop-c-preserved
loop-c-preserved c =
    let a = c.args in
    let inv = c.loop-c.invariant in
    let e = column_unread max tasks a.to a.from inv.0 c.loop-c-test.true in (
      one_turn inv.0 (rw c.join.ensures),
      one_turn inv.1 (rw (← e.0, ← e.1)),
    )

pub returns : goal.returns
unfolding join_row any_newer
returns c = (all_turns tasks c.loop-c.invariant.1 (omega arith) (omega arith), all_turns tasks c.loop-c.invariant.0 (omega arith) (omega arith))
