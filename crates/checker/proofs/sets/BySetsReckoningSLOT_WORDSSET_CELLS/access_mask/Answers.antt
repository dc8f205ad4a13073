-- The mask of an access, gathered from the lowest task up.
use native.Mathlib.Omega.{arith}
use mathlib.Core.Path.{◌∙◌}
use Rattle.theory.proofs.tables.Bits.{no_weights, one_weight, all_weights}
use Rattle.theory.proofs.tables.Reckoned.{mask_by}
use Rattle.checker.proofs.sets.BySetsReckoningSLOT_WORDSSET_CELLS.access_mask.Goals as goal

pub loop-u-init : goal.loop-u-init
loop-u-init c = no_weights

pub loop-u-preserved : goal.loop-u-preserved
loop-u-preserved c = one_weight (omega arith) c.loop-u.invariant c.added_weight-x.ensures c.apart.ensures

pub returns : goal.returns
returns c =
    let a = c.args in
    let asks = rw c.args.access.in_range.is_access_lem at c.ask_at.ensures.0 in
    c.lower_half.ensures ∙ all_weights c.loop-u.invariant (omega arith) (omega arith)
    ∙ mask_by a.cells.now a.last.now a.access.kind a.access.task.0 a.access.variable.0 (rw (← asks, ← c.task_row.ensures) c.known_slots-known.ensures)
