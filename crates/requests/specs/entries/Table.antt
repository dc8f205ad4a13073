-- The faults that a planner has accepted, as they are kept: in the control table, for each variable and task a mask of the tasks that are
-- paired with it. And how a Race is reported beside them.
use Rattle.std.specs.Prelude.{ℕ, ◌+◌, ◌*◌, Bool, true, false, cond, not, ◌&&◌, List, ltb, eqb, get_or, set}
use Rattle.theory.specs.declared.record.Record.{Record}
use Rattle.theory.specs.declared.state.State.{State}
use Rattle.requests.specs.declared.excuse.Excuse.{Excuse}
use Rattle.theory.specs.order.Limits.{tasks, variables, entries}
use Rattle.theory.specs.order.Recording.{accesses}
use Rattle.theory.specs.fillings.Completion.{bit}
use Rattle.theory.specs.history.History.{latest_number}
use Rattle.theory.specs.tables.Reckonings.{with_bit, without_bit, clock_apart, mask_of, lowest_task}
use Rattle.theory.specs.totals.Totals.{entries_at}
use Rattle.theory.specs.feeding.Step.{record_number}

-- How they are kept

abbrev pub paired_at : ℕ → ℕ → ℕ
paired_at v t = entries_at + 1 + (v * tasks + t)

-- how many entries were taken in
abbrev pub entry_count : List ℕ → ℕ
entry_count control = get_or control entries_at 0

-- the tasks that are paired with task t as accepted for variable v
abbrev pub paired_with : List ℕ → ℕ → ℕ → ℕ
paired_with control v t = get_or control (paired_at v t) 0

-- "`mark=accepted` or `mark=open`"
abbrev pub marked : Bool → ℕ → ℕ → ℕ
marked true u x = with_bit u x
marked false u x = without_bit u x

abbrev pub pairs : Bool → ℕ → ℕ → ℕ → List ℕ → List ℕ
pairs accepted v t u control = set control (paired_at v t) (marked accepted u (paired_with control v t))

-- "13 for an entry when 200 have been taken in"
abbrev pub entries_full : List ℕ → Bool
entries_full control = not (ltb (entry_count control) entries)

-- an entry that is taken in: the pair is accepted or open, whichever of the two acts
unfoldable pub entered : ℕ → ℕ → ℕ → Bool → List ℕ → List ℕ
entered v low high accepted control =
    set (pairs accepted v high low (pairs accepted v low high control)) entries_at (entry_count control + 1)

-- numbers of a variable and of two tasks
abbrev pub pair_in_range : ℕ → ℕ → ℕ → Bool
pair_in_range v low high = ltb v variables && (ltb low tasks && ltb high tasks)

-- an entry of any numbers is taken in where they are in their ranges and there is room; else the table stays as it was
abbrev pub enters : ℕ → ℕ → ℕ → List ℕ → Bool
enters v low high control = pair_in_range v low high && not (entries_full control)

abbrev pub after_entry : ℕ → ℕ → ℕ → Bool → List ℕ → List ℕ
after_entry v low high accepted control = cond (enters v low high control) (entered v low high accepted control) control

-- How a Race is reported

-- an access whose numbers are in their ranges
abbrev pub access_in_range : Record → Bool
access_in_range r = accesses r.kind && (ltb r.task tasks && ltb r.on variables)

-- the tasks whose latest conflicting access has no path here in the fullest filling and that are not paired with the acting task as accepted
unfoldable pub open_tasks : List ℕ → List ℕ → List ℕ → ℕ → ℕ → ℕ → ℕ
open_tasks control last fullclocks k task on = mask_of (λ u. clock_apart fullclocks last k task on u && not (bit (paired_with control on task) u))

abbrev pub excuse_of : Bool → ℕ → Excuse
excuse_of known partner = record { known = known; partner = record_number partner }

-- by the mask of these tasks, the partner by document 01 being w
abbrev pub excuse_open : List ℕ → ℕ → ℕ → ℕ → ℕ → Excuse
excuse_open last k on mask w = cond (eqb mask 0) (excuse_of true w) (excuse_of false (latest_number last k on (lowest_task mask)))

-- by the tables that are looked at
unfoldable pub tables_excuse : List ℕ → List ℕ → List ℕ → Record → ℕ → Excuse
tables_excuse control last fullclocks r w =
    cond (ltb 0 (entry_count control) && access_in_range r)
    (excuse_open last r.kind r.on (open_tasks control last fullclocks r.kind r.task r.on) w)
    (excuse_of false w)

-- by the state once the access r is fed
abbrev pub open_mask : State → Record → ℕ
open_mask s r = open_tasks s.control s.last s.fullclocks r.kind r.task r.on

abbrev pub excuse : State → Record → ℕ → Excuse
excuse s r w = tables_excuse s.control s.last s.fullclocks r w
