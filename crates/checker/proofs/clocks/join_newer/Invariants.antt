-- Column by column: an entry is compared and joined in the same turn, as it was before the pass.
use mathlib.Core.Bool.{false, ◌||◌}
use Prim.Native.Nat.{max}
use lib.Dec.{ltb}
use Rattle.theory.specs.order.Limits.{tasks}
use Rattle.theory.specs.tables.Rows.{cell, join_cell}
use Rattle.theory.proofs.basics.Turns.{Turned}
use Rattle.checker.proofs.clocks.join_newer.Given as goal

abbrev pub invariant-loop-c : goal.invariant-loop-c
invariant-loop-c l =
    Turned (join_cell max tasks l.to l.from) l.initial.cells l.c l.cells
    × Turned (λ t b. b || ltb (cell tasks l.initial.cells l.to t) (cell tasks l.initial.cells l.from t)) false l.c l.newer
