-- `reading::short::task_at`: the first four bytes stand there, and the next four are those of the task. Assumes nothing.
use mathlib.Core.Path.{sym, ◌∙◌}
use native.Mathlib.Omega.{arith}
use Rattle.text.proofs.Digits.{decimal_fits}
use Rattle.text.proofs.Tasks.{says_task}
use Rattle.reading.proofs.short.task_at.Goals as goal

-- a task has at most two digits
pub overflow_add-result : goal.overflow_add-result
overflow_add-result c =
    let t = c.guess_task-t in
    omega (arith, t.ensures.2, decimal_fits 1 t.result.task (omega (arith, t.ensures.0)))

pub returns : goal.returns
returns c =
    let t = c.guess_task-t in (
      omega (arith, t.ensures.2, decimal_fits 1 t.result.task (omega (arith, t.ensures.0))),
      rw t.ensures.2
          (says_task t.result.task t.ensures.0 c.args.s.now c.args.p c.requires (λ i. (c.type_inv.s i).fits)
          (c.has_four.ensures c.if-not-has_four.false) (sym c.four-bytes.ensures ∙ c.if-bytes-t.false ∙ t.ensures.1)),
    )
