-- Following a list of records for the access that ends it: each is accepted as the step would, up to the first that is refused. F-6 and F-10
-- answer so; what each keeps on the way and says at the end is its own.
use Rattle.std.specs.Prelude.{ℕ, zero, suc, ◌≡◌, false, cond, List, [], ◌∷◌, ◌++◌, eqb, length, get_or, take as first_of}
use Rattle.theory.specs.declared.record.Record.{Record}
use Rattle.theory.specs.order.Recording.{accesses}
use Rattle.theory.specs.acceptance.Control.{control_refusal, control_after}
use Rattle.theory.specs.feeding.Step.{fresh_control}
use Rattle.theory.specs.feeding.Feeding.{refusals_after}

-- a record as it is lent: three numbers
abbrev pub record_in : List ℕ → Record
record_in x = record { kind = get_or x 0 0; task = get_or x 1 0; on = get_or x 2 0 }

-- What is computed

-- what following came to: the refusal where it ended, or 0, the control table, and what is kept
pub record Run (S : Type 0) : Type 0 where
  pub refused : ℕ
  pub control : List ℕ
  pub kept : S

abbrev pub run_of : {S : Type 0} → ℕ → List ℕ → S → Run S
run_of refused control kept = record { refused = refused; control = control; kept = kept }

-- `next control r s` is what is kept after an accepted record r, by the control table before it
abbrev pub followed : {S : Type 0} → (List ℕ → Record → S → S) → List ℕ → S → List Record → Run S
followed next control s [] = run_of 0 control s
followed next control s (r ∷ rs) =
    elim (control_refusal control r) [ zero ↦ followed next (control_after r.kind r.task r.on control) (next control r s) rs | suc n ↦ run_of (suc n) control s ]

-- who answers so: what it keeps at the start and after a record, by the record that ends the list; its answer with the number of a refusal, or
-- with 0 where there is no access to answer for; and its answer for an access
pub record Follower (S A : Type 0) : Type 0 where
  pub fresh : S
  pub next : Record → List ℕ → Record → S → S
  pub without : ℕ → A
  pub told : Record → S → A

-- the answer for the ending record q, by its refusal, and by what was followed before it
abbrev pub answered_at : {S A : Type 0} → Follower S A → Record → Run S → ℕ → A
answered_at f q x zero = cond (accesses q.kind) (f.told q x.kept) (f.without 0)
answered_at f q x (suc n) = f.without (suc n)

abbrev pub ending : {S A : Type 0} → Follower S A → Record → Run S → A
ending f q x = elim x.refused [ zero ↦ answered_at f q x (control_refusal x.control q) | suc n ↦ f.without (suc n) ]

-- the answer for records that have the last one, q, behind them
unfoldable pub ended_by : {S A : Type 0} → Follower S A → List Record → Record → A
ended_by f rs q = ending f q (followed (f.next q) fresh_control f.fresh rs)

-- the answer for a list of records: for the last of them
abbrev pub answer_by : {S A : Type 0} → Follower S A → List Record → A
answer_by f [] = f.without 0
answer_by f (r ∷ rs) = ended_by f (first_of (length rs) (r ∷ rs)) (get_or (r ∷ rs) (length rs) r)

-- What is claimed of any such answer

-- "the refusal number of its first refused record", of those that feeding the list gives; 0 where there is none
abbrev pub first_refused : List ℕ → ℕ
first_refused [] = 0
first_refused (n ∷ ns) = cond (eqb n 0) (first_refused ns) n

abbrev pub fed_refusal : List Record → ℕ
fed_refusal rs = first_refused (refusals_after [] rs)

-- where there is no access to answer for
pub record AnswersWithout {A : Type 0} (without : ℕ → A) (answer : List Record → A) : Type 0 where
  -- "A list that the step would not accept throughout gets the refusal number of its first refused record"
  pub refused : (rs : List Record) (n : ℕ) → fed_refusal rs ≡ suc n → answer rs ≡ without (suc n)
  -- "An empty list, or one that ends in another kind of record"
  pub empty : answer [] ≡ without 0
  pub other_end : (rs : List Record) (q : Record) → fed_refusal (rs ++ (q ∷ [])) ≡ 0 → accesses q.kind ≡ false → answer (rs ++ (q ∷ [])) ≡ without 0
