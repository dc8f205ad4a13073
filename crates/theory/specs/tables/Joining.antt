-- Joining one clock into another, as a take does with its semaphore's clock: what is computed, and what F-4 asks of it for any two clocks.
use Rattle.std.specs.Prelude.{ℕ, max, ◌≤◌, ◌<◌, ◌≡◌, Bool, true, cond, ◌&&◌, ◌↔◌, List, ltb, length, Option, Some, None}
use Rattle.theory.specs.order.Limits.{tasks, semaphores}
use Rattle.theory.specs.tables.Rows.{acted_row, cell_count, cell, task_row, semaphore_row, join_row, any_newer}

-- "For any two clocks": those at the rows `to` and `from` of a table of clocks
pub record JoinsClocks (to from : ℕ) (b : List ℕ) : Type 0 where
  -- "the joined clock has at each task the newer of the two entries"
  pub newer_entries : (t : ℕ) → t < tasks → cell tasks (join_row max tasks to from b) to t ≡ max (cell tasks b to t) (cell tasks b from t)
  -- every other clock stays as it was
  pub others : (r t : ℕ) → t < tasks → ¬ (r ≡ to) → cell tasks (join_row max tasks to from b) r t ≡ cell tasks b r t
  -- "the join answers yes exactly when some entry of the semaphore's clock is newer than the task's"
  pub answers : (any_newer tasks to from b ≡ true) ↔ ((t : ℕ) × (t < tasks) × (cell tasks b to t < cell tasks b from t))

abbrev pub OnePass : Type 0
OnePass = (to from : ℕ) (b : List ℕ) → length b ≡ cell_count tasks → to ≤ acted_row → JoinsClocks to from b

-- a semaphore's clock is joined into a task's, for a host that asks: whether any entry was newer; nothing where there is no such task or semaphore
abbrev pub both_known : ℕ → ℕ → Bool
both_known task s = ltb task tasks && ltb s semaphores

abbrev pub acquired_by : List ℕ → ℕ → ℕ → Option Bool
acquired_by b task s = cond (both_known task s) (Some (any_newer tasks (task_row task) (semaphore_row s) b)) None

abbrev pub after_acquiring : List ℕ → ℕ → ℕ → List ℕ
after_acquiring b task s = cond (both_known task s) (join_row max tasks (task_row task) (semaphore_row s) b) b
