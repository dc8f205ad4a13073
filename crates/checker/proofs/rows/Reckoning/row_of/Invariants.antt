-- A row copied, column by column.
use lib.ListN.{set}
use Rattle.theory.specs.tables.Rows.{cell}
use Rattle.theory.proofs.basics.Turns.{Turned}
use Rattle.checker.proofs.rows.Reckoning.row_of.Given as goal

abbrev pub invariant-loop-c : goal.invariant-loop-c
invariant-loop-c g l = Turned (λ k x. set x k (cell g.row.WIDTH l.cells l.from k)) l.initial.row l.c l.row
