-- A row by itself with another row of a table, column by column.
use lib.ListN.{set, get_or}
use Rattle.theory.specs.tables.Rows.{cell}
use Rattle.theory.proofs.basics.Turns.{Turned}
use Rattle.checker.proofs.marks.Marking.acquired_with.Given as goal

abbrev pub invariant-loop-c : goal.invariant-loop-c
invariant-loop-c g l = Turned (λ k x. set x k (g.Self.Reckoning.joined (get_or l.row k 0) (cell g.row.WIDTH l.cells l.from k))) l.initial.next l.c l.next
