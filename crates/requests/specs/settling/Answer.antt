-- F-10: what is answered, for every list of records and every home set. proofs/settling proves it of `settles`, and of the table of single tasks.
use Rattle.std.specs.Prelude.{ℕ, suc, ◌-◌, ◌^◌, ◌<◌, ◌≡◌, Bool, true, false, cond, ◌↔◌, List, [], ◌∷◌, ◌++◌, T, length, Ok}
use Rattle.theory.specs.declared.record.Record.{Record}
use Rattle.requests.specs.declared.settled.Settled.{Settled}
use Rattle.theory.specs.order.Limits.{tasks}
use Rattle.theory.specs.order.Recording.{Event, event_of, accesses}
use Rattle.theory.specs.fillings.Completion.{bit}
use Rattle.theory.specs.acceptance.Table.{refusal, recording}
use Rattle.theory.specs.acceptance.Refusals.{refusal_in}
use Rattle.theory.specs.verdicts.Verdict.{Race, Clear, Doubt}
use Rattle.theory.specs.verdicts.Demands.{Firm}
use Rattle.requests.specs.following.Following.{fed_refusal, AnswersWithout}
use Rattle.requests.specs.settling.Forcing.{is_home, CanForce, Forced}
use Rattle.requests.specs.settling.Fold.{Settling, unsettled, home_of}

-- Home sets, by the tasks 0 to 15

abbrev pub NoTask : ℕ → Type 0
NoTask home = (t : ℕ) → t < tasks → ¬ T (is_home home t)

abbrev pub EveryTask : ℕ → Type 0
EveryTask home = (t : ℕ) → t < tasks → T (is_home home t)

-- "the empty and the full one": 0 and 65,535, and whatever has the same 16 bits
abbrev pub EmptyAndFull : Type 0
EmptyAndFull = NoTask 0 × EveryTask (2 ^ tasks - 1)

abbrev pub Includes : ℕ → ℕ → Type 0
Includes home' home = (t : ℕ) → t < tasks → T (is_home home t) → T (is_home home' t)

abbrev pub SameTasks : ℕ → ℕ → Type 0
SameTasks home home' = (t : ℕ) → t < tasks → is_home home t ≡ is_home home' t

-- The answers

abbrev pub No : Settling → Type 0
No a = a ≡ Ok Settled.No

abbrev pub Yes : Settling → Type 0
Yes a = a ≡ Ok Settled.Yes

-- the answer for an access that stands at place k and ends the recording es
pub record AnsweredAt (home : ℕ) (es : List Event) (k : ℕ) (a : Settling) : Type 0 where
  -- "say whether home can force Clear"; "nothing else is a reason for yes"
  pub says : (b : Bool) × (a ≡ Ok (cond b Settled.Yes Settled.No)) × Forced home es k b
  -- "By the same rule a Clear access gets yes and a Race access no", whoever gave the verdict
  pub clear : Firm es k Clear → Yes a
  pub race : Firm es k Race → No a
  -- "The answer is given for any set, the empty and the full one included": of a Doubt
  pub empty_set : Firm es k Doubt → NoTask home → No a
  pub full_set : Firm es k Doubt → EveryTask home → Yes a

-- of whatever answers lists of records, with a home set
pub record Settles (answer : ℕ → List Record → Settling) : Type 0 where
  -- "A list refused there gets the same number; one that is empty or ends in another kind of record gets neither yes nor no"
  pub without : (home : ℕ) → AnswersWithout unsettled (answer home)
  pub number : (home : ℕ) (rs : List Record) (n : ℕ) → fed_refusal rs ≡ suc n → refusal_in (answer home rs) ≡ suc n
  -- "the answer is for the access that ends it"
  pub access_end : (home : ℕ) (rs : List Record) (q : Record) → fed_refusal (rs ++ (q ∷ [])) ≡ 0 → accesses q.kind ≡ true →
      AnsweredAt home (recording rs ++ (event_of q ∷ [])) (length (recording rs)) (answer home (rs ++ (q ∷ [])))
  -- a larger home never turns yes into no
  pub larger : (home home' : ℕ) (rs : List Record) → Includes home' home → Yes (answer home rs) → Yes (answer home' rs)
  -- the set is its 16 bits
  pub same_tasks : (home home' : ℕ) (rs : List Record) → SameTasks home home' → answer home rs ≡ answer home' rs

-- For the planner's table: after every list of records, of the record r that comes next, the tasks whose lost records could settle it alone, as a
-- mask; none for what is refused or no access
pub record SettlesAlone (alone : List Record → Record → ℕ) : Type 0 where
  pub each_task : (rs : List Record) (r : Record) → refusal (recording rs) r ≡ 0 → accesses r.kind ≡ true → (t : ℕ) → t < tasks →
      T (bit (alone rs r) t) ↔ CanForce (home_of t) (recording rs ++ (event_of r ∷ [])) (length (recording rs))
  pub no_others : (rs : List Record) (r : Record) → alone rs r < 2 ^ tasks
  pub refused : (rs : List Record) (r : Record) (n : ℕ) → refusal (recording rs) r ≡ suc n → alone rs r ≡ 0
  pub no_access : (rs : List Record) (r : Record) → accesses r.kind ≡ false → alone rs r ≡ 0
