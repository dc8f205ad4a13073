-- The mask of an access, by where its rows begin.
use mathlib.Core.Path.{◌≡◌, ◌∙◌}
use Prim.Native.Nat.{◌*◌}
use lib.Dec.{lit<}
use Rattle.theory.specs.order.Limits.{tasks}
use Rattle.theory.proofs.tables.Bits.{halved_twice, mask_lt}
use Rattle.theory.proofs.tables.Reckoned.{mask_by_rows}
use Rattle.theory.proofs.history.Accesses.{access_asks}
use Rattle.checker.proofs.clocks.ByClocksReckoningCOLUMNSCLOCK_CELLS.access_mask.Goals as goal

pub slot-from-requires : goal.slot-from-requires
slot-from-requires c =
    ((access_asks c.args.access.kind c.args.access.in_range.is_access_lem c.ask_at.ensures).1, c.args.access.in_range.variable_fits, lit< tt)

pub returns : goal.returns
returns c =
    let a = c.args in
    let row : c.task_row-row.result * tasks ≡ a.access.task.0 * tasks = rw c.task_row-row.ensures in
    let from = rw (access_asks a.access.kind c.args.access.in_range.is_access_lem c.ask_at.ensures).0 at c.slot-from.ensures.0 in
    c.lower_half.ensures ∙ ((halved_twice c.mask.ensures (mask_lt _)).0 ∙ mask_by_rows a.cells.now a.last.now a.access.kind a.access.task.0 a.access.variable.0 row from)
