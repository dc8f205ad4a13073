-- What a mark can acquire is gathered in a row by itself, named task by named task, which is then joined to the hub.
use Rattle.theory.specs.fillings.Completion.{bit}
use Rattle.theory.specs.tables.Rows.{hub, join_row, join_with, row_or_hub}
use Rattle.theory.proofs.tables.NamedTurns.{NamedTurned}
use Rattle.checker.proofs.marks.Marking.gather.Given as goal

abbrev pub invariant-loop-left : goal.invariant-loop-left
invariant-loop-left g l =
    let j = g.Self.Reckoning.joined in
    let w = g.row.WIDTH in
    NamedTurned l.mask (λ u b. join_row j w hub (row_or_hub (bit l.mask u) u) b) l.cells l.left (join_with j w hub l.known l.cells)

abbrev pub decreases-loop-left : goal.decreases-loop-left
decreases-loop-left g l = l.left
