-- Both words of an access, by where its rows begin.
use mathlib.Core.Path.{◌≡◌, ◌∙◌, ap}
use Prim.Native.Nat.{◌*◌}
use lib.Dec.{lit<}
use Rattle.theory.specs.order.Limits.{tasks}
use Rattle.theory.proofs.tables.Bits.{twice}
use Rattle.theory.proofs.tables.Reckoned.{mask_by_rows}
use Rattle.theory.proofs.history.Accesses.{access_asks}
use Rattle.checker.proofs.clocks.clock_words.Goals as goal

pub slot-from-requires : goal.slot-from-requires
slot-from-requires c =
    ((access_asks c.args.access.kind c.args.access.in_range.is_access_lem c.ask_at.ensures).1, c.args.access.in_range.variable_fits, lit< tt)

pub returns : goal.returns
returns c =
    let a = c.args in
    let row : c.task_row-row.result * tasks ≡ a.access.task.0 * tasks = rw c.task_row-row.ensures in
    let from = rw (access_asks a.access.kind c.args.access.in_range.is_access_lem c.ask_at.ensures).0 at c.slot-from.ensures.0 in (
      c.mask.ensures ∙ ap twice (mask_by_rows a.fullclocks.now a.last.now a.access.kind a.access.task.0 a.access.variable.0 row from),
      c.mask-2.ensures ∙ ap twice (mask_by_rows a.clocks.now a.last.now a.access.kind a.access.task.0 a.access.variable.0 row from),
    )
