-- Feeding a list of records one after the other from a fresh state, and the demands on what it answers. A record may be of any kind,
-- known or not, and refused ones are fed too. proofs/feeding/Demanded.antt proves the demands of the step, which goes by the clocks, and of the sets.
use Rattle.std.specs.Prelude.{ℕ, zero, suc, ◌≤◌, ◌<◌, ◌≡◌, true, false, cond, ◌↔◌, ◌≢◌, List, [], ◌∷◌, ◌++◌, map, length}
use Rattle.theory.specs.declared.record.Record.{Record}
use Rattle.theory.specs.declared.answer.Answer.{Answer}
use Rattle.theory.specs.declared.state.State.{State}
use Rattle.theory.specs.declared.state.SetState.{SetState}
use Rattle.theory.specs.order.Recording.{Event, act, lost, kind, kinds, loss_mark, Unmarked, event_of, accesses}
use Rattle.theory.specs.acceptance.Owning.{OwnedFirst, KeepsProfile}
use Rattle.theory.specs.acceptance.Table.{last_row, OfRow, refusal, append_unless, recording}
use Rattle.theory.specs.verdicts.Verdict.{Verdict, Race, Clear, Doubt, AccessAt, Unordered, With}
use Rattle.theory.specs.verdicts.Demands.{Firm}
use Rattle.theory.specs.verdicts.Search.{judge, is_access_event}
use Rattle.theory.specs.acceptance.Control.{control_refusal}
use Rattle.theory.specs.verdicts.Search
use Rattle.theory.specs.verdicts.Examples.{Example, table}
use Rattle.theory.specs.feeding.Meaning.{Meaning, refuses, takes, judges, meaning, is_refusal, refusal_number, verdict_in}
use Rattle.theory.specs.feeding.Step.{next_number, step_of, set_step_of, fresh_state, fresh_sets}

-- What feeding answers, one answer for each record

-- a checker: its fresh state, the state that feeding a record leaves, what it answers, and the control table of a state, by which it accepts
pub record Checker (S : Type 0) : Type 0 where
  pub fresh : S
  pub control : S → List ℕ
  pub next : S → Record → S
  pub answer : S → Record → Answer

abbrev pub replies : {S : Type 0} → Checker S → S → List Record → List Answer
replies c s [] = []
replies c s (r ∷ rs) = c.answer s r ∷ replies c (c.next s r) rs

abbrev pub runs : {S : Type 0} → Checker S → List Record → List Answer
runs c = replies c c.fresh

-- the state after a list
abbrev pub after_all : {S : Type 0} → Checker S → S → List Record → S
after_all c s [] = s
after_all c s (r ∷ rs) = after_all c (c.next s r) rs

-- the step, by the clocks
abbrev pub by_clocks : Checker State
by_clocks = record { fresh = fresh_state; control = λ s. s.control; next = λ s r. (step_of s r).state; answer = λ s r. (step_of s r).answer }

-- the step of the sets
abbrev pub by_sets : Checker SetState
by_sets = record { fresh = fresh_sets; control = λ s. s.control; next = λ s r. (set_step_of s r).state; answer = λ s r. (set_step_of s r).answer }

abbrev pub fed : List Record → List Answer
fed = runs by_clocks

abbrev pub set_fed : List Record → List Answer
set_fed = runs by_sets

-- "The recording is those records that were accepted", by what they were answered
abbrev pub taken_in : List Record → List Meaning → List Event
taken_in [] answers = []
taken_in (r ∷ rs) [] = []
taken_in (r ∷ rs) (a ∷ answers) = cond (is_refusal a) (taken_in rs answers) (event_of r ∷ taken_in rs answers)

-- `Got answers k a`: the record at place k of the recording was answered a, the k-th that is no refusal
pub data Got : List Meaning → ℕ → Meaning → Type 0 where
  got_now : {a : Meaning} {answers : List Meaning} → is_refusal a ≡ false → Got (a ∷ answers) zero a
  got_later : {a b : Meaning} {answers : List Meaning} {k : ℕ} → is_refusal b ≡ false → Got answers k a → Got (b ∷ answers) (suc k) a
  got_refused : {a b : Meaning} {answers : List Meaning} {k : ℕ} → is_refusal b ≡ true → Got answers k a → Got (b ∷ answers) k a

-- The demands, of whatever answers lists of records

-- the recording that is made of a list of records
abbrev pub recorded_by : (List Record → List Answer) → List Record → List Event
recorded_by answers rs = taken_in rs (map meaning (answers rs))

-- each access of the recording got, under its record number, a verdict and a partner that are as P says
abbrev pub EachAccess : (List Record → List Answer) → (List Event → ℕ → Verdict → ℕ → Type 0) → Type 0
EachAccess answers P =
    (rs : List Record) (k : ℕ) →
    AccessAt (recorded_by answers rs) k →
    (v : Verdict) × (w : ℕ) × Got (map meaning (answers rs)) k (judges (suc k) v w) × P (recorded_by answers rs) k v w

-- demand 3: nobody who fills in the lost records can overturn a verdict. Of every recording, with or without an `owned` and wherever that stands: F-14's
-- "whoever fills them in afterwards still can't overturn a verdict on either side of the change" is this, with place k before the `owned` or after it
abbrev pub FedDemand3 : (List Record → List Answer) → Type 0
FedDemand3 answers = EachAccess answers (λ es k v w. Firm es k v)

-- the partner is that of document 01
abbrev pub FedPartner : (List Record → List Answer) → Type 0
FedPartner answers = EachAccess answers With

-- demand 2, for recordings without loss marks
abbrev pub FedDemand2 : (List Record → List Answer) → Type 0
FedDemand2 answers = EachAccess answers (λ es k v w. Unmarked es → ((v ≡ Race) ↔ Unordered es k) × ((v ≡ Clear) ↔ (¬ Unordered es k)))

-- acceptance is that of the table: the accepted records are those to which no row applies, and a refused one gets the first row's number
abbrev pub refusals_after : List Event → List Record → List ℕ
refusals_after es [] = []
refusals_after es (r ∷ rs) = refusal es r ∷ refusals_after (append_unless es r (refusal es r)) rs

abbrev pub FedAcceptance : (List Record → List Answer) → Type 0
FedAcceptance answers =
    (rs : List Record) → (recorded_by answers rs ≡ recording rs) × (map refusal_number (map meaning (answers rs)) ≡ refusals_after [] rs)

-- F-12 and F-14: each accepted record keeps the profile
abbrev pub FedProfile : (List Record → List Answer) → Type 0
FedProfile answers =
    (rs : List Record) (before : List Event) (e : Event) (after : List Event) → recorded_by answers rs ≡ before ++ (e ∷ after) → KeepsProfile before e

-- "Loss marks are not allowed in it, so every verdict there is Race or Clear": no Doubt in a recording whose first record is `owned`.
-- Where it comes later, "Earlier loss marks stay, so Doubt can still be given after the change"
abbrev pub FedOwned : (List Record → List Answer) → Type 0
FedOwned answers = EachAccess answers (λ es k v w. OwnedFirst es → v ≢ Doubt)

-- What is answered, in full: by the table of refusals and the search of verdicts/Search.antt over the recording so far

abbrev pub accepted_answer : List Event → Event → Meaning
accepted_answer es e =
    cond (is_access_event e) (judges (suc (length es)) (judge es e).verdict (judge es e).partner) (takes (suc (length es)))

abbrev pub answer_unless : List Event → Record → ℕ → Meaning
answer_unless es r zero = accepted_answer es (event_of r)
answer_unless es r (suc n) = refuses (suc n)

-- the answer to a record after a recording
abbrev pub answer_to : List Event → Record → Meaning
answer_to es r = answer_unless es r (refusal es r)

abbrev pub answers_from : List Event → List Record → List Meaning
answers_from es [] = []
answers_from es (r ∷ rs) = answer_to es r ∷ answers_from (append_unless es r (refusal es r)) rs

-- the answers are those of the table and of the verdict's search, over the recording so far
abbrev pub AnswersByTable : (List Record → List Answer) → Type 0
AnswersByTable answers = (rs : List Record) → map meaning (answers rs) ≡ answers_from [] rs

-- Demand 1, for records, of a checker: in any state a record is refused with the number of the first row of the table that applies, "and not
-- otherwise", and the state is as it was; or it is taken in, an access with a verdict and any other with its record number

-- the number of the first row of the table that applies to a record in a state; 0 where none does
abbrev pub checker_refusal : {S : Type 0} → Checker S → S → Record → ℕ
checker_refusal c s r = control_refusal (c.control s) r

-- the number that an accepted record gets there
abbrev pub number_for : {S : Type 0} → Checker S → S → ℕ
number_for c s = next_number (c.control s)

-- the record n is answered by a verdict with a partner
abbrev pub Judged : Answer → ℕ → Type 0
Judged a n = (v : Verdict) × (w : ℕ) × (meaning a ≡ judges n v w)

pub data Handled {S : Type 0} (c : Checker S) (s : S) (r : Record) : Type 0 where
  -- a row applies
  refused : (n : ℕ) → checker_refusal c s r ≡ n → 1 ≤ n → n ≤ last_row → OfRow n → meaning (c.answer s r) ≡ refuses n → c.next s r ≡ s → Handled c s r
  -- none does, and it is an access
  access_taken : checker_refusal c s r ≡ 0 → accesses r.kind ≡ true → Judged (c.answer s r) (number_for c s) → Handled c s r
  -- none does, and it is no access
  other_taken : checker_refusal c s r ≡ 0 → accesses r.kind ≡ false → meaning (c.answer s r) ≡ takes (number_for c s) → Handled c s r

abbrev pub Demand1 : {S : Type 0} → Checker S → Type 0
Demand1 {S} c = (s : S) (r : Record) → Handled c s r

-- "A user may now count on each access that passes rows 1 to 9 getting a verdict"
abbrev pub GetsVerdict : {S : Type 0} → Checker S → Type 0
GetsVerdict {S} c = (s : S) (r : Record) → accesses r.kind ≡ true → checker_refusal c s r ≡ 0 → Judged (c.answer s r) (number_for c s)

-- "A field that an op does not use is not looked at", by a checker

-- the records have the same kind, and the same fields so far as its op uses them: an act its task and its number, a loss mark its mask, and what
-- is none of the kinds nothing
pub record SameUse (r r' : Record) : Type 0 where
  pub same_kind : r.kind ≡ r'.kind
  pub same_on : r.kind < length kinds → r.on ≡ r'.on
  pub same_task : r.kind < length kinds → r.kind ≢ loss_mark → r.task ≡ r'.task

-- in any state such records are answered alike, and leave the same state
abbrev pub Overlooks : {S : Type 0} → Checker S → Type 0
Overlooks {S} c = (s : S) (r r' : Record) → SameUse r r' → (c.answer s r ≡ c.answer s r') × (c.next s r ≡ c.next s r')

-- The short recordings, fed

-- an event as it is fed
abbrev pub event_record : Event → Record
event_record (act o t n) = record { kind = kind o; task = t; on = n }
event_record (lost mask) = record { kind = loss_mark; task = 0; on = mask }

-- the verdicts among the answers
abbrev pub verdicts_of : List Meaning → List Search.Finding
verdicts_of [] = []
verdicts_of (a ∷ answers) = verdict_in a ++ verdicts_of answers

-- the recordings of Examples.antt, fed, give the verdicts that stand there
abbrev pub FedExamples : (List Record → List Answer) → Type 0
FedExamples answers = map (λ (x : Example). verdicts_of (map meaning (answers (map event_record x.events)))) table ≡ map (λ (x : Example). x.answered) table

-- All of these demands together, of whatever answers lists of records
pub record Demanded (answers : List Record → List Answer) : Type 0 where
  pub by_table : AnswersByTable answers
  pub demand2 : FedDemand2 answers
  pub demand3 : FedDemand3 answers
  pub partner : FedPartner answers
  pub acceptance : FedAcceptance answers
  pub profile : FedProfile answers
  pub owned : FedOwned answers
  pub examples : FedExamples answers
