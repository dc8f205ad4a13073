-- The control table: each task's phase, 0 for unseen, 1 for live and 2 for ended, then the count of accepted records, 1 under the profile of owned
-- semaphores, each semaphore's holder and last giver, and the count of skipped takes; after these the totals (specs/totals), at which acceptance does not look.
use Rattle.std.specs.Prelude.{ℕ, ◌+◌, Bool, cond, ◌&&◌, List, eqb, ltb, get_or, set}
use Rattle.theory.specs.declared.record.Record.{Record}
use Rattle.theory.specs.order.Limits.{tasks, semaphores}
use Rattle.theory.specs.order.Recording.{Op, kind}
use Rattle.theory.specs.tables.Counters.{raise}
use Rattle.theory.specs.acceptance.Table.{Standing, standing_refusal}

abbrev pub live_in : List ℕ → ℕ → Bool
live_in control t = eqb (get_or control t 0) 1

abbrev pub unseen_in : List ℕ → ℕ → Bool
unseen_in control t = eqb (get_or control t 0) 0

-- the place of the count, after the phases
abbrev pub count_at : ℕ
count_at = tasks

abbrev pub count_in : List ℕ → ℕ
count_in control = get_or control count_at 0

abbrev pub profile_at : ℕ
profile_at = count_at + 1

-- 1 under the profile, and 0 else
abbrev pub under_in : List ℕ → Bool
under_in control = eqb (get_or control profile_at 0) 1

-- a semaphore's holder, as its number and one more; 0 for nobody
abbrev pub holder_at : ℕ → ℕ
holder_at s = profile_at + 1 + s

abbrev pub held_in : List ℕ → ℕ → Bool
held_in control s = ltb 0 (get_or control (holder_at s) 0)

abbrev pub holds_in : List ℕ → ℕ → ℕ → Bool
holds_in control s t = eqb (get_or control (holder_at s) 0) (t + 1)

-- and the task that gave it last, in the same way (F-13)
abbrev pub giver_at : ℕ → ℕ
giver_at s = holder_at semaphores + s

abbrev pub gave_in : List ℕ → ℕ → ℕ → Bool
gave_in control s t = eqb (get_or control (giver_at s) 0) (t + 1)

-- how many takes were skipped
abbrev pub skipped_at : ℕ
skipped_at = giver_at semaphores

abbrev pub skipped_in : List ℕ → ℕ
skipped_in control = get_or control skipped_at 0

-- so many cells do acceptance and the skips look at
abbrev pub acceptance_cells : ℕ
acceptance_cells = skipped_at + 1

abbrev pub control_standing : List ℕ → Standing
control_standing control =
    record {
      live = live_in control;
      unseen = unseen_in control;
      count = count_in control;
      profile = under_in control;
      held = held_in control;
      holds = holds_in control;
    }

-- under the profile, the act is a take of a semaphore that its task gave last
abbrev pub skips_in : List ℕ → ℕ → ℕ → ℕ → Bool
skips_in control k task on = eqb k (kind Op.take) && (under_in control && gave_in control on task)

-- the refusal of a record
abbrev pub control_refusal : List ℕ → Record → ℕ
control_refusal control r = standing_refusal (control_standing control) r

abbrev pub counted : List ℕ → List ℕ
counted control = set control count_at (count_in control + 1)

-- a task takes semaphore s: under the profile it is the holder, and the take is counted if it is skipped
abbrev pub taken_by : ℕ → ℕ → List ℕ → List ℕ
taken_by task s control = cond (under_in control) (set (cond (gave_in control s task) (raise skipped_at control) control) (holder_at s) (task + 1)) control

-- a task gives it: under the profile nobody holds it, and the task is its last giver
abbrev pub given_by : ℕ → ℕ → List ℕ → List ℕ
given_by task s control = cond (under_in control) (set (set control (holder_at s) 0) (giver_at s) (task + 1)) control

-- what an accepted record does to phases, profile, holders and last givers
abbrev pub updated : ℕ → ℕ → ℕ → List ℕ → List ℕ
updated k task on control =
    cond (eqb k (kind Op.start)) (set control on 1)
    (cond (eqb k (kind Op.join)) (set control on 2)
    (cond (eqb k (kind Op.take)) (taken_by task on control)
    (cond (eqb k (kind Op.give)) (given_by task on control)
    (cond (eqb k (kind Op.owned)) (set control profile_at 1) control))))

-- the table after an accepted record
abbrev pub control_after : ℕ → ℕ → ℕ → List ℕ → List ℕ
control_after k task on control = counted (updated k task on control)
