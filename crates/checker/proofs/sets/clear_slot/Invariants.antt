-- The slot's bit is taken from each row, row by row.
use Prim.Native.Nat.{◌+◌, ◌*◌}
use lib.Bits.{bit_and}
use lib.ListN.{set}
use Rattle.theory.specs.tables.Rows.{cell}
use Rattle.theory.specs.tables.Reckonings.{slot_words}
use Rattle.theory.proofs.basics.Turns.{Turned}
use Rattle.checker.proofs.sets.clear_slot.Given as goal

abbrev pub invariant-loop-r : goal.invariant-loop-r
invariant-loop-r l = Turned (λ q b. set b (q * slot_words + l.word) (bit_and (cell slot_words b q l.word) l.others)) l.initial.cells l.r l.cells
