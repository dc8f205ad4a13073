-- A row joined with another, column by column.
use native.Mathlib.Omega.{arith}
use Rattle.theory.specs.tables.Rows.{join_row}
use Rattle.theory.specs.tables.Reckonings.{slot_words}
use Rattle.theory.proofs.basics.Turns.{no_turn, one_turn, all_turns}
use Rattle.checker.proofs.sets.BySetsReckoningSLOT_WORDSSET_CELLS.join_rows.Goals as goal

pub loop-c-init : goal.loop-c-init
loop-c-init c = no_turn

pub loop-c-preserved : goal.loop-c-preserved
loop-c-preserved c = one_turn c.loop-c.invariant (rw c.join.ensures)

pub returns : goal.returns
unfolding join_row
returns c = all_turns slot_words c.loop-c.invariant (omega arith) (omega arith)
