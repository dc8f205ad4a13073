-- The rows that are picked are those of the kind, and the joins those of its order.
use mathlib.Core.Path.{◌≡◌, ◌∙◌}
use mathlib.Core.Bool.{Bool, cond}
use Prim.Native.Nat.{ℕ, ◌≤◌}
use native.Mathlib.Omega.{arith}
use lib.Dec.{lit≤}
use Rattle.theory.specs.order.Limits.{tasks}
use Rattle.theory.specs.acceptance.Table.{Fitting}
use Rattle.theory.specs.tables.Rows.{hub, acted_row}
use Rattle.theory.proofs.tables.Rows.{same_max}
use Rattle.theory.proofs.tables.HandOver.{HandOverKind, releases, object_row, object_fits, picked_fits, handed, handed_asked}
use Rattle.checker.proofs.clocks.hand_over.Goals as goal

module _ (kind task on : ℕ) {r : Bool} {own object to from : ℕ} (is-release : r ≡ releases kind) (is-own : own ≡ task) (is-object : object ≡ object_row kind on)
    (is-to : to ≡ cond r object own) (is-from : from ≡ cond r own object) where
  -- the rows by the kind
  to_row : to ≡ cond (releases kind) (object_row kind on) task
  to_row = rw (is-release, is-object, is-own) at is-to

  from_row : from ≡ cond (releases kind) task (object_row kind on)
  from_row = rw (is-release, is-object, is-own) at is-from

  -- they are in the table
  fit : HandOverKind kind → Fitting kind task on → (to ≤ acted_row) × (from ≤ acted_row)
  fit h f =
      let o = object_fits h f in
      let t = f.task_fits in
      let x = object_row kind on in
      (picked_fits (releases kind) x task to_row (omega (arith, o)) (omega (arith, t)), picked_fits (releases kind) task x from_row (omega (arith, t)) (omega (arith, o)))

pub join_newer-requires : goal.join_newer-requires
join_newer-requires c =
    let a = c.args in
    fit a.kind a.task.0 a.on c.is_release-releases.ensures c.task_row-own.ensures c.object_row-object.ensures c.picked-to.ensures c.picked-from.ensures c.requires.0 c.requires.1

pub join_newer-requires-2 : goal.join_newer-requires-2
join_newer-requires-2 c =
    let a = c.args in
    fit a.kind a.task.0 a.on c.is_release-releases.ensures c.task_row-own.ensures c.object_row-object.ensures c.picked-to.ensures c.picked-from.ensures c.requires.0 c.requires.1

pub join_newer-requires-3 : goal.join_newer-requires-3
join_newer-requires-3 c =
    let t = c.requires.1.task_fits in
    (lit≤ tt, picked_fits c.is_release-releases.result c.task_row-own.result hub c.picked.ensures (omega (arith, c.task_row-own.ensures, t)) (lit≤ tt))

pub returns : goal.returns
returns c =
    let a = c.args in
    let (h, f) = c.requires in
    let to = to_row a.kind a.task.0 a.on c.is_release-releases.ensures c.task_row-own.ensures c.object_row-object.ensures c.picked-to.ensures c.picked-from.ensures in
    let from = from_row a.kind a.task.0 a.on c.is_release-releases.ensures c.task_row-own.ensures c.object_row-object.ensures c.picked-to.ensures c.picked-from.ensures in
    let hub-from = rw (c.is_release-releases.ensures, c.task_row-own.ensures) at c.picked.ensures in
    let one = rw (to, from) at c.join_newer.ensures.1 in
    let two = rw (to, from) at c.join_newer-2.ensures.1 in
    let three = rw (hub-from, two) at c.join_newer-3.ensures.1 in
    (one ∙ handed same_max tasks a.task.0 f.task_fits h a.on a.clocks.now, three ∙ handed_asked same_max tasks a.task.0 f.task_fits h a.on a.fullclocks.now)
