-- The named tasks noted as having acted, task by task.
use mathlib.Core.Bool.{cond}
use Prim.Native.Nat.{◌+◌, ◌*◌}
use lib.ListN.{set}
use Rattle.theory.specs.fillings.Completion.{bit}
use Rattle.theory.specs.tables.Rows.{acted_row, cell}
use Rattle.theory.proofs.basics.Turns.{Turned}
use Rattle.checker.proofs.marks.Marking.note_named.Given as goal

abbrev pub invariant-loop-t : goal.invariant-loop-t
invariant-loop-t g l =
    let w = g.row.WIDTH in
    Turned (λ u b. set b (acted_row * w + u) (cond (bit l.mask u) 1 (cell w b acted_row u))) l.initial.cells l.t l.cells
