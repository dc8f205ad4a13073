-- The step: what feeding a record to a state answers and leaves. One definition for the steps by value and in place. The running state is
-- that of the clocks; the sets have a state and a step of their own.
use Rattle.std.specs.Prelude.{ℕ, zero, suc, ◌+◌, Bool, true, false, cond, List, [], ◌∷◌, eqb, replicate, set}
use Rattle.theory.specs.declared.record.Record.{Record}
use Rattle.theory.specs.declared.numbers.RecordNumber.{RecordNumber}
use Rattle.theory.specs.declared.answer.Answer.{Answer}
use Rattle.theory.specs.declared.answer.Answer.TheVariants.{Refused, Accepted, Clear, Race, Doubt}
use Rattle.theory.specs.declared.state.State.{State}
use Rattle.theory.specs.declared.state.Stepped.{Stepped}
use Rattle.theory.specs.declared.state.SetState.{SetState}
use Rattle.theory.specs.declared.state.SetStepped.{SetStepped}
use Rattle.theory.specs.declared.masks.Masks.{Masks}
use Rattle.theory.specs.fillings.Completion.{arrived, full}
use Rattle.theory.specs.acceptance.Refusals.{numbered_row}
use Rattle.theory.specs.acceptance.Control.{count_in, skips_in, control_refusal, control_after}
use Rattle.theory.specs.order.Limits.{tasks}
use Rattle.theory.specs.totals.Totals.{control_cells, totalled}
use Rattle.theory.specs.order.Recording.{Op, kind, accesses}
use Rattle.theory.specs.tables.Rows.{cell_count}
use Rattle.theory.specs.history.History.{slots, latest_number, last_after}
use Rattle.theory.specs.verdicts.Verdict.{Verdict}
use Rattle.theory.specs.feeding.Meaning.{Meaning, refuses, takes, judges, meaning}
use Rattle.theory.specs.tables.Reckonings.{slot_words, next_clocks, next_sets, masks_by, clock_masks, set_masks, lowest_task}

abbrev pub record_number : ℕ → RecordNumber
record_number n = record { 0 = n }

-- an answer as three numbers, for a host that knows no enum: which case it is, document 01's number (of the refusal, or of the record), and
-- the record number of the partner, 0 where there is none
abbrev pub verdict_case : Verdict → ℕ
verdict_case Verdict.Clear = 2
verdict_case Verdict.Race = 3
verdict_case Verdict.Doubt = 4

abbrev pub three_numbers : Meaning → List ℕ
three_numbers (refuses n) = 0 ∷ n ∷ 0 ∷ []
three_numbers (takes n) = 1 ∷ n ∷ 0 ∷ []
three_numbers (judges n v w) = verdict_case v ∷ n ∷ w ∷ []

abbrev pub answer_numbers : Answer → List ℕ
answer_numbers a = three_numbers (meaning a)

-- the answer to an accepted access, by the masks of the tasks that are apart in the fullest filling and as it arrived
abbrev pub answer_by_tests : Bool → Bool → List ℕ → ℕ → ℕ → ℕ → ℕ → ℕ → Answer
answer_by_tests false b last k on number full arrived = Race (record_number number) (record_number (latest_number last k on (lowest_task full)))
answer_by_tests true false last k on number full arrived = Doubt (record_number number) (record_number (latest_number last k on (lowest_task arrived)))
answer_by_tests true true last k on number full arrived = Clear (record_number number)

unfoldable pub answer_by_masks : List ℕ → ℕ → ℕ → ℕ → ℕ → ℕ → Answer
answer_by_masks last k on number full arrived = answer_by_tests (eqb full 0) (eqb arrived 0) last k on number full arrived

-- the answer to an accepted record
abbrev pub answered_by : List ℕ → ℕ → ℕ → ℕ → Masks → Answer
answered_by last k on number masks =
    cond (accesses k) (answer_by_masks last k on number masks.full masks.arrived) (Accepted (record_number number))

-- the number of the next record
abbrev pub next_number : List ℕ → ℕ
next_number control = count_in control + 1

-- The accepted part of a step, the same by clocks and by sets: the answer by the masks of either, what the control table is then, with the verdict
-- counted, and what is kept

abbrev pub next_answer : List ℕ → List ℕ → Record → Masks → Answer
next_answer control last r masks = answered_by last r.kind r.on (next_number control) masks

abbrev pub next_control : List ℕ → Record → Answer → List ℕ
next_control control r answer = totalled (meaning answer) r.on (control_after r.kind r.task r.on control)

abbrev pub next_history : List ℕ → List ℕ → Record → List ℕ
next_history control last r = last_after r.kind r.task r.on (next_number control) last

-- By the clocks

abbrev pub clock_answer : State → Record → Answer
clock_answer s r = next_answer s.control s.last r (clock_masks s.clocks s.fullclocks s.last r.kind r.task r.on)

-- which kind moves the clocks: a take that is skipped does no more than its own entry, as a miss does, which makes no step (F-13)
abbrev pub clock_kind : List ℕ → ℕ → ℕ → ℕ → ℕ
clock_kind control k task on = cond (skips_in control k task on) (kind Op.miss) k

-- an accepted record, of which the kind m moves the clocks
abbrev pub accepted_as : ℕ → State → Record → Stepped
accepted_as m s r =
    record {
      state =
          record {
            control = next_control s.control r (clock_answer s r);
            last = next_history s.control s.last r;
            clocks = next_clocks arrived m r.task r.on (next_number s.control) s.clocks;
            fullclocks = next_clocks full m r.task r.on (next_number s.control) s.fullclocks;
          };
      answer = clock_answer s r;
    }

-- a refused record leaves the state as it was
abbrev pub step_unless_as : ℕ → ℕ → State → Record → Stepped
step_unless_as zero m s r = accepted_as m s r
step_unless_as (suc n) m s r = record { state = s; answer = Refused (numbered_row (suc n)) }

abbrev pub step_unless : ℕ → State → Record → Stepped
step_unless n s r = step_unless_as n (clock_kind s.control r.kind r.task r.on) s r

unfoldable pub step_of : State → Record → Stepped
step_of s r = step_unless (control_refusal s.control r) s r

-- By the sets

abbrev pub set_answer : SetState → Record → Answer
set_answer s r = next_answer s.control s.last r (set_masks s.sets s.fullsets s.last r.kind r.task r.on)

abbrev pub set_accepted : SetState → Record → SetStepped
set_accepted s r =
    record {
      state =
          record {
            control = next_control s.control r (set_answer s r);
            last = next_history s.control s.last r;
            sets = next_sets arrived r.kind r.task r.on s.sets;
            fullsets = next_sets full r.kind r.task r.on s.fullsets;
          };
      answer = set_answer s r;
    }

abbrev pub set_step_unless : ℕ → SetState → Record → SetStepped
set_step_unless zero s r = set_accepted s r
set_step_unless (suc n) s r = record { state = s; answer = Refused (numbered_row (suc n)) }

unfoldable pub set_step_of : SetState → Record → SetStepped
set_step_of s r = set_step_unless (control_refusal s.control r) s r

-- a record as it is fed, from its numbers
abbrev pub record_of : ℕ → ℕ → ℕ → Record
record_of kind task on = record { kind = kind; task = task; on = on }

-- the masks that a record is asked for, by the refusal that it would get: none where it would be refused
abbrev pub masks_unless : ℕ → Masks → Masks
masks_unless zero masks = masks
masks_unless (suc n) masks = masks_by 0 0

abbrev pub apart_by_clocks : State → Record → Masks
apart_by_clocks s r = masks_unless (control_refusal s.control r) (clock_masks s.clocks s.fullclocks s.last r.kind r.task r.on)

abbrev pub apart_by_sets : SetState → Record → Masks
apart_by_sets s r = masks_unless (control_refusal s.control r) (set_masks s.sets s.fullsets s.last r.kind r.task r.on)

-- Fresh states: task 0 is live, and nothing else is known

abbrev pub fresh_control : List ℕ
fresh_control = set (replicate control_cells 0) 0 1

unfoldable pub fresh_state : State
fresh_state = record { control = fresh_control; last = replicate slots 0; clocks = replicate (cell_count tasks) 0; fullclocks = replicate (cell_count tasks) 0 }

unfoldable pub fresh_sets : SetState
fresh_sets = record { control = fresh_control; last = replicate slots 0; sets = replicate (cell_count slot_words) 0; fullsets = replicate (cell_count slot_words) 0 }
