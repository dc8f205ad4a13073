-- A copy of the hub is put into what a mark can release to, row by row: the named tasks', and every object's.
use mathlib.Core.Path.{◌≡◌}
use mathlib.Core.List.{List}
use Prim.Native.Nat.{ℕ}
use Rattle.theory.specs.tables.Rows.{hub, row_of, put_row, is_released, row_or_hub}
use Rattle.theory.proofs.basics.Turns.{Turned}
use Rattle.theory.proofs.tables.NamedTurns.{NamedTurned}
use Rattle.theory.specs.order.Limits.{tasks}
use Rattle.checker.proofs.marks.Marking.spread.Given as goal

-- one turn: a copy of the hub for row q, if it is released to
abbrev released : ℕ → ℕ → List ℕ → ℕ → List ℕ → List ℕ
released w mask row q x = put_row w (row_or_hub (is_released mask q) q) row x

-- the hub itself is as it was
abbrev pub invariant-loop-left : goal.invariant-loop-left
invariant-loop-left g l = (row_of g.row.WIDTH hub l.cells ≡ l.hub) × NamedTurned l.mask (released g.row.WIDTH l.mask l.hub) l.initial.cells l.left l.cells

abbrev pub decreases-loop-left : goal.decreases-loop-left
decreases-loop-left g l = l.left

abbrev pub invariant-loop-r : goal.invariant-loop-r
invariant-loop-r g l =
    let f = released g.row.WIDTH l.mask l.hub in
    (b : List ℕ) → Turned f b tasks l.initial.cells → Turned f b l.r l.cells
