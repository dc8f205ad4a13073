-- The rows that an act acquires and releases to are in the table, and order flows over them.
use mathlib.Core.Path.{sym, ◌∙◌}
use native.Mathlib.Omega.{arith}
use Rattle.theory.proofs.tables.Ranges.{acquired_fits, released_fits, row_fits, joins_kind}
use Rattle.std.proofs.Common.{rules}
use Rattle.checker.proofs.rows.Reckoning.pass_on.Goals as goal

pub joins_acted-joins-requires : goal.joins_acted-joins-requires
joins_acted-joins-requires g c = (search rules, λ e. rw e at c.requires.on_fits)

pub flow-requires : goal.flow-requires
flow-requires g c =
    let a = c.args in
    let f = c.requires in
    -- what joins a task that has acted is a join
    let h = acquired_fits f (λ e. joins_kind g.row.WIDTH a.cells.now a.kind a.on (sym c.joins_acted-joins.ensures ∙ e)) in
    (search rules, (omega (arith, row_fits c.acquired_row.ensures h), omega (arith, row_fits c.released_row.ensures (released_fits f)), f.task_fits))

pub returns : goal.returns
returns g c = rw (← c.joins_acted-joins.ensures, ← c.acquired_row.ensures, ← c.released_row.ensures) c.flow.ensures
