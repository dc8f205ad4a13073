-- `reading::fast_reading::ended`: one digit or two. Assumes nothing.
use mathlib.Core.Path.{◌≡◌, ap, ◌∙◌}
use Prim.Native.Nat.{ℕ, ◌+◌, ◌*◌, ◌-◌}
use native.Mathlib.Omega.{arith}
use borrow.Author.Tests.{lt-ltb, le-ltb}
use Rattle.text.specs.Bytes.{little}
use Rattle.text.proofs.Tasks.{ending_number, task_digits}
use Rattle.reading.proofs.fast_reading.ended.Goals as goal
use Rattle.reading.proofs.fast_reading.ended.Goals.{After-four, After-four-2}

-- the four bytes of the literal as one number
first : (c : After-four) → c.four.result ≡ 540032363
unfolding little
first c = c.four.ensures

second : (c : After-four-2) → c.four-2.result ≡ 808533355
unfolding little
second c = c.four-2.ensures

pub overflow_add-result : goal.overflow_add-result
overflow_add-result c = omega (arith, first (goal.at.overflow_add-result c).After-four, c.requires)

pub overflow_add-result-2 : goal.overflow_add-result-2
overflow_add-result-2 c = omega (arith, second (goal.at.overflow_add-result-2 c).After-four-2, c.requires)

pub returns-then-task-lt10 : goal.returns-then-task-lt10
returns-then-task-lt10 c =
    let n : ℕ = c.args.task in
    let small = lt-ltb n 10 c.if-task-lt10.true in
    λ i. record {
      task = n;
      bytes = (ap (λ (k : ℕ). k + n * 65536) (first (goal.at.returns-then-task-lt10 c).After-four) ∙ (rw small at (ending_number n c.requires))) i;
      len = (rw small at (task_digits n c.requires)) i;
    }

pub returns : goal.returns
returns c =
    let n : ℕ = c.args.task in
    let large = le-ltb n 10 c.if-task-lt10.false in
    λ i. record {
      task = n;
      bytes = (ap (λ (k : ℕ). k + (n - 10) * 16777216) (second (goal.at.returns c).After-four-2) ∙ (rw large at (ending_number n c.requires))) i;
      len = (rw large at (task_digits n c.requires)) i;
    }
