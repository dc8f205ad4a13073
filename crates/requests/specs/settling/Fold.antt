-- What is computed to say whether home can force Clear: a list is followed with one table of clocks, in which each mark is filled in by home's
-- tasks alone.
use Rattle.std.specs.Prelude.{ℕ, zero, suc, ◌^◌, cond, ◌&&◌, List, [], ◌∷◌, eqb, get_or, set, replicate, Result, Ok, Err}
use Rattle.std.specs.Int.Bits.{bit_and}
use Rattle.theory.specs.declared.record.Record.{Record}
use Rattle.requests.specs.declared.settled.Settled.{Settled}
use Rattle.theory.specs.declared.state.State.{State}
use Rattle.theory.specs.declared.refusal.Refusal.{Refusal}
use Rattle.theory.specs.basics.Turns.{turns}
use Rattle.theory.specs.order.Limits.{tasks}
use Rattle.theory.specs.order.Recording.{accesses}
use Rattle.theory.specs.fillings.Completion.{Filling}
use Rattle.theory.specs.acceptance.Refusals.{row_number, numbered_row}
use Rattle.theory.specs.acceptance.Control.{control_refusal}
use Rattle.theory.specs.history.History.{slots, last_after}
use Rattle.theory.specs.tables.Rows.{cell_count}
use Rattle.theory.specs.tables.Reckonings.{next_clocks, mask_of, clock_mask}
use Rattle.theory.specs.feeding.Step.{next_number, step_of, fresh_state}
use Rattle.theory.specs.feeding.Feeding.{after_all, by_clocks}
use Rattle.requests.specs.following.Following.{Follower, answer_by}

-- of the tasks that a mark names, home's
abbrev pub home_only : ℕ → Filling
home_only home mask = bit_and mask home

-- What is kept while a list is followed: the history, and the clocks that home alone fills in

pub record Side : Type 0 where
  pub last : List ℕ
  pub clocks : List ℕ

abbrev pub side_of : List ℕ → List ℕ → Side
side_of last clocks = record { last = last; clocks = clocks }

unfoldable pub fresh_side : Side
fresh_side = side_of (replicate slots 0) (replicate (cell_count tasks) 0)

-- after an accepted record, by the control table before it
abbrev pub side_after : ℕ → List ℕ → Record → Side → Side
side_after home control r s =
    side_of (last_after r.kind r.task r.on (next_number control) s.last)
    (next_clocks (home_only home) r.kind r.task r.on (next_number control) s.clocks)

-- The answer: the row that refuses the first refused record, or yes, no or neither

abbrev pub Settling : Type 0
Settling = Result Settled Refusal

-- where there is no access to answer for: by the number of the refusal, or 0
abbrev pub unsettled : ℕ → Settling
unsettled zero = Ok Settled.Neither
unsettled (suc n) = Err (numbered_row (suc n))

-- as two numbers, for a host that knows no enum: the refusal's or 0, and 0 for neither yes nor no, 1 for no, 2 for yes
abbrev pub settled_number : Settled → ℕ
settled_number Settled.Neither = 0
settled_number Settled.No = 1
settled_number Settled.Yes = 2

abbrev pub settling_numbers : Settling → List ℕ
settling_numbers (Ok answer) = 0 ∷ settled_number answer ∷ []
settling_numbers (Err row) = row_number row ∷ 0 ∷ []

-- yes where no task's latest conflicting access is without a path to the access, once home has filled in what it can
abbrev pub forced_at : Record → Side → Settling
forced_at q s = cond (eqb (clock_mask s.clocks s.last q.kind q.task q.on) 0) (Ok Settled.Yes) (Ok Settled.No)

abbrev pub home_follower : ℕ → Follower Side Settling
home_follower home = record { fresh = fresh_side; next = λ q. side_after home; without = unsettled; told = forced_at }

-- the answer for a list of records
abbrev pub settles : ℕ → List Record → Settling
settles home = answer_by (home_follower home)

-- For the planner's table: each task as a home of its own. Table t of the homes has the clocks that task t alone fills in

abbrev pub home_of : ℕ → ℕ
home_of t = 2 ^ t

unfoldable pub fresh_homes : List (List ℕ)
fresh_homes = replicate tasks (replicate (cell_count tasks) 0)

-- after an accepted record
unfoldable pub homes_after : ℕ → ℕ → ℕ → ℕ → List (List ℕ) → List (List ℕ)
homes_after k task on number homes = turns tasks (λ t hs. set hs t (next_clocks (home_only (home_of t)) k task on number (get_or hs t []))) homes

-- the tasks whose lost records could settle an access that comes next alone, as a mask
abbrev pub alone_mask : List (List ℕ) → List ℕ → ℕ → ℕ → ℕ → ℕ
alone_mask homes last k task on = mask_of (λ t. eqb (clock_mask (get_or homes t []) last k task on) 0)

-- the same asked of any record, before it is fed: none for one that is no access or would be refused
abbrev pub alone_before : List ℕ → List ℕ → List (List ℕ) → Record → ℕ
alone_before control last homes r =
    cond (eqb (control_refusal control r) 0 && accesses r.kind) (alone_mask homes last r.kind r.task r.on) 0

-- the tables as it is fed: one that is refused leaves them as they were
abbrev pub homes_fed : List ℕ → Record → List (List ℕ) → List (List ℕ)
homes_fed control r homes = cond (eqb (control_refusal control r) 0) (homes_after r.kind r.task r.on (next_number control) homes) homes

-- as a list of records is fed: they are kept beside the running state
abbrev pub homes_left : State → List (List ℕ) → List Record → List (List ℕ)
homes_left s homes [] = homes
homes_left s homes (r ∷ rs) = homes_left (step_of s r).state (homes_fed s.control r homes) rs

-- after a list from a fresh state, for the record that comes next
abbrev pub alone_after : List Record → Record → ℕ
alone_after rs r =
    let s = after_all by_clocks fresh_state rs in alone_before s.control s.last (homes_left fresh_state fresh_homes rs) r
