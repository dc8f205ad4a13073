-- F-11, "Same run, logged in another order": what planners compare of two recordings, and that swaps of unrelated neighbours do not change it.
-- proofs/swapping proves it of the clocks and of the sets.
use Rattle.std.specs.Prelude.{ℕ, zero, suc, ◌≤◌, ◌<◌, ◌≡◌, true, false, cond, List, [], ◌∷◌, map, length}
use Rattle.std.proofs.Math.Option
use Rattle.std.proofs.Math.Option.{Option, none, some}
use Rattle.std.proofs.Math.ListN.{get_elem?}
use Rattle.theory.specs.declared.record.Record.{Record}
use Rattle.theory.specs.declared.answer.Answer.{Answer}
use Rattle.theory.specs.declared.state.State.{State}
use Rattle.requests.specs.declared.excuse.Excuse.{Excuse}
use Rattle.theory.specs.order.Limits.{variables, entries}
use Rattle.theory.specs.order.Recording.{event_of}
use Rattle.theory.specs.acceptance.Owning.{is_owned}
use Rattle.theory.specs.verdicts.Verdict.{Verdict, Race, Clear, Doubt}
use Rattle.theory.specs.feeding.Meaning.{Meaning, refuses, takes, judges, meaning, is_refusal}
use Rattle.theory.specs.feeding.Feeding.{Checker, runs, after_all, by_clocks}
use Rattle.theory.specs.totals.Totals.{total, any_race}
use Rattle.requests.specs.entries.Table.{excuse}
use Rattle.requests.specs.entries.Known.{Fault, AllFit, start_with}
use Rattle.requests.specs.swapping.Swaps.{Swaps, moved_by}

-- "Take a list whose every record is accepted": no answer is a refusal
pub data Accepted : List Meaning → Type 0 where
  none_left : Accepted []
  and_accepted : {m : Meaning} {answers : List Meaning} → is_refusal m ≡ false → Accepted answers → Accepted (m ∷ answers)

-- What planners compare: what a record is told, without record numbers, for "Partner record numbers may shift"

pub data Said : Type 0 where
  refused : (row : ℕ) → Said
  -- taken in, and no access
  taken : Said
  -- "verdict" and "partner task", which a Clear access has not
  judged : Verdict → (partner : Option ℕ) → Said
  -- a Race that is known (F-7), and its partner task
  known : (partner : Option ℕ) → Said

-- the task of the record that has this number, in a list whose every record is accepted
abbrev pub task_of : List Record → ℕ → Option ℕ
task_of rs zero = none
task_of rs (suc i) = Option.map (λ r. r.task) (get_elem? rs i)

abbrev pub said : List Record → Meaning → Said
said rs (refuses n) = refused n
said rs (takes n) = taken
said rs (judges n v w) = judged v (task_of rs w)

-- a record beside what it is told
pub record Line : Type 0 where
  pub of : Record
  pub said : Said

-- the lines of the records `left` of a list rs, by their answers
abbrev pub lines_among : List Record → List Record → List Meaning → List Line
lines_among rs [] answers = []
lines_among rs (r ∷ left) [] = []
lines_among rs (r ∷ left) (m ∷ answers) = record { of = r; said = said rs m } ∷ lines_among rs left answers

abbrev pub lines : (List Record → List Answer) → List Record → List Line
lines answers rs = lines_among rs rs (map meaning (answers rs))

-- The claim, of whatever answers lists of records, for swaps of neighbours as R has them: of unrelated ones

pub record SameVerdicts (R : Record → Record → Type 0) (answers : List Record → List Answer) : Type 0 where
  -- "Then the swapped list is accepted"
  pub accepted : {rs rs' : List Record} → Swaps R rs rs' → Accepted (map meaning (answers rs)) → Accepted (map meaning (answers rs'))
  -- "and each access has the same verdict and the same partner task": the line at place k stands, as it is, at the place that the record has come to
  pub same : {rs rs' : List Record} (s : Swaps R rs rs') → Accepted (map meaning (answers rs)) → (k : ℕ) →
      get_elem? (lines answers rs') (moved_by s k) ≡ get_elem? (lines answers rs) k

-- F-12, of an `owned`: "a swap as in F-11 never moves it". It stays at its place, wherever that is (F-14)

abbrev pub OwnedStays : (Record → Record → Type 0) → Type 0
OwnedStays R =
    (rs rs' : List Record) (s : Swaps R rs rs') (k : ℕ) (r : Record) → get_elem? rs k ≡ some r → is_owned (event_of r) ≡ true → moved_by s k ≡ k

-- The totals of F-2, of a checker: the same for every variable, and so is whether there is a Race anywhere

abbrev pub control_after_all : {S : Type 0} → Checker S → List Record → List ℕ
control_after_all c rs = c.control (after_all c c.fresh rs)

pub record SameTotals {S : Type 0} (R : Record → Record → Type 0) (c : Checker S) : Type 0 where
  pub each : {rs rs' : List Record} → Swaps R rs rs' → Accepted (map meaning (runs c rs)) → (w : Verdict) (v : ℕ) → v < variables →
      total w v (control_after_all c rs') ≡ total w v (control_after_all c rs)
  pub any_race_lem : {rs rs' : List Record} → Swaps R rs rs' → Accepted (map meaning (runs c rs)) →
      any_race (control_after_all c rs') ≡ any_race (control_after_all c rs)

-- The faults already accepted of F-7

-- a Race beside the entries
abbrev pub excused : List Record → Excuse → Said
excused rs x = cond x.known (known (task_of rs x.partner.0)) (judged Race (task_of rs x.partner.0))

-- what the record r is told that left the state s
abbrev pub told_beside : List Record → State → Record → Meaning → Said
told_beside rs s r (refuses n) = refused n
told_beside rs s r (takes n) = taken
told_beside rs s r (judges n Race w) = excused rs (excuse s r w)
told_beside rs s r (judges n Clear w) = judged Clear (task_of rs w)
told_beside rs s r (judges n Doubt w) = judged Doubt (task_of rs w)

-- the lines of the records `left` of a list rs, from the state s on
abbrev pub lines_from : List Record → State → List Record → List Line
lines_from rs s [] = []
lines_from rs s (r ∷ left) =
    record { of = r; said = told_beside rs (by_clocks.next s r) r (meaning (by_clocks.answer s r)) } ∷ lines_from rs (by_clocks.next s r) left

abbrev pub lines_beside : List Fault → List Record → List Line
lines_beside fs rs = lines_from rs (start_with fs) rs

-- `known`, verdicts and partner tasks are the same beside any entries, no more than are taken in
abbrev pub SameBeside : (Record → Record → Type 0) → Type 0
SameBeside R =
    (fs : List Fault) → AllFit fs → length fs ≤ entries →
    (rs rs' : List Record) (s : Swaps R rs rs') → Accepted (map meaning (runs by_clocks rs)) → (k : ℕ) →
    get_elem? (lines_beside fs rs') (moved_by s k) ≡ get_elem? (lines_beside fs rs) k
