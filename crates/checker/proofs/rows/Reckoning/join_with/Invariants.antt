-- A row joined with one that stands by itself, column by column.
use Rattle.theory.specs.tables.Rows.{join_with_cell}
use Rattle.theory.proofs.basics.Turns.{Turned}
use Rattle.checker.proofs.rows.Reckoning.join_with.Given as goal

abbrev pub invariant-loop-c : goal.invariant-loop-c
invariant-loop-c g l = Turned (join_with_cell g.Self.Reckoning.joined g.row.WIDTH l.to l.row) l.initial.cells l.c l.cells
