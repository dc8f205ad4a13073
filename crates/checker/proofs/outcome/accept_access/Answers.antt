-- The calls' equations put together.
use mathlib.Core.Path.{sym, ◌∙◌}
use Prim.Native.Nat.{◌%◌, ◌^◌}
use Rattle.theory.specs.order.Limits.{tasks}
use Rattle.theory.proofs.history.Accesses.{kept_access}
use Rattle.theory.proofs.tables.Bits.{halved_empty}
use Rattle.theory.proofs.totals.Counted.{told_verdict}
use Rattle.checker.proofs.outcome.accept_access.Goals as goal

pub returns : goal.returns
returns c =
    let a = c.args in
    let k = a.access.kind in
    let v = a.access.variable.0 in
    let p = c.requires in
    let is = a.access.in_range.is_access_lem in
    let t = rw (← halved_empty p.0, ← halved_empty p.1) at c.total.ensures in
    let told = told_verdict a.last.now k v a.number.0 (a.words.full % 2 ^ tasks) (a.words.arrived % 2 ^ tasks) v a.control.now in (
      simp is c.judged-answer.ensures,
      rw c.judged-answer.ensures (t ∙ sym told),
      c.keep.ensures ∙ sym (kept_access k a.access.task.0 v a.number.0 a.last.now is),
    )
