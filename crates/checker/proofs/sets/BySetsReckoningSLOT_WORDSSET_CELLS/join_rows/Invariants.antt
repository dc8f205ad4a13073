-- A row joined with another, column by column.
use lib.Bits.{bit_or}
use Rattle.theory.specs.tables.Rows.{join_cell}
use Rattle.theory.specs.tables.Reckonings.{slot_words}
use Rattle.theory.proofs.basics.Turns.{Turned}
use Rattle.checker.proofs.sets.BySetsReckoningSLOT_WORDSSET_CELLS.join_rows.Given as goal

abbrev pub invariant-loop-c : goal.invariant-loop-c
invariant-loop-c l = Turned (join_cell bit_or slot_words l.to l.from) l.initial.cells l.c l.cells
