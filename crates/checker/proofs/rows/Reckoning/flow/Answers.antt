-- Joins, one after the other; the task's row stays as its copy has it, and a row that is joined with itself is as it was.
use mathlib.Core.Path.{◌≡◌, sym}
use mathlib.Core.Bool.{Bool}
use mathlib.Core.List.{List}
use Prim.Native.Nat.{ℕ, ◌<◌}
use borrow.Author.Tests.{lt-ltb}
use Rattle.theory.specs.order.Limits.{tasks}
use Rattle.theory.specs.tables.Rows.{join_row, flow}
use Rattle.theory.proofs.tables.Rows.{Same, join_self, join_kept}
use Rattle.checker.proofs.rows.Reckoning.flow.Goals as goal

-- the own row alone is released to
own-released : {j : ℕ → ℕ → ℕ} → Same j → (w : ℕ) (asked : Bool) (acquired : ℕ) {released task : ℕ} (b : List ℕ) {x : List ℕ} → released ≡ task → task < tasks →
    x ≡ join_row j w task acquired b → x ≡ flow j w asked acquired released task b
unfolding flow
own-released s w asked acquired {task = t} b {x} e h q = rw (e, lt-ltb t tasks h, ← q, ← join_self s w t x) (join_self s w t x)

pub returns-then-released-own : goal.returns-then-released-own
returns-then-released-own g c =
    let a = c.args in
    let e = c.task_row-own.ensures in
    rw (← e) (own-released g.met.Self.Reckoning.gathers.alone g.row.WIDTH a.asked a.acquired a.cells.now c.if-released-own.true (rw (← e) at c.requires.2) c.join_row.ensures)

pub returns-then-released-asked : goal.returns-then-released-asked
unfolding flow
returns-then-released-asked g c =
    let s = g.met.Self.Reckoning.gathers.alone in
    let j = join_kept s g.row.WIDTH _ _ _ (sym c.row_of-row.ensures) c.join_with.ensures in
    rw (← c.task_row-own.ensures, c.if-released-asked.true, ← c.join_row.ensures, ← j.0) (join_self s g.row.WIDTH _ _)

pub returns : goal.returns
unfolding flow
returns g c =
    let s = g.met.Self.Reckoning.gathers.alone in
    let j = join_kept s g.row.WIDTH _ _ _ (sym c.row_of-row.ensures) c.join_with.ensures in
    let k = join_kept s g.row.WIDTH _ _ _ j.1 c.join_with-2.ensures in
    rw (← c.task_row-own.ensures, c.if-released-asked.false, ← c.join_row.ensures, ← j.0) k.0
