-- "For every list, marks included, each reckoning on its own says "path" exactly where Order has one, for the arrived recording and for the
-- fullest filling; their match follows from that." Said of every access that a reckoning keeps, and of the act that comes next.
use Rattle.std.specs.Prelude.{ℕ, suc, ◌≤◌, ◌<◌, ◌≡◌, Bool, true, false, not, ◌||◌, ◌↔◌, List, [], ◌∷◌, ◌++◌, T, length}
use Rattle.std.proofs.Math.ListN as ListN
use Rattle.theory.specs.declared.record.Record.{Record}
use Rattle.theory.specs.declared.masks.Masks.{Masks}
use Rattle.theory.specs.declared.state.State.{State}
use Rattle.theory.specs.declared.state.SetState.{SetState}
use Rattle.theory.specs.order.Limits.{tasks, variables}
use Rattle.theory.specs.order.Recording.{Op, take, look, join, fresh, Event, act, At, kind, is_access, op_of, event_of, accesses, ◌is◌}
use Rattle.theory.specs.order.Path.{HappensBefore, clashes}
use Rattle.theory.specs.fillings.Completion.{bit, fullest}
use Rattle.theory.specs.acceptance.Table.{is_act, has_kind, refusal, recording}
use Rattle.theory.specs.history.History.{latest_number}
use Rattle.theory.specs.tables.Reckonings.{clock_apart, set_apart}
use Rattle.theory.specs.feeding.Step.{apart_by_clocks, apart_by_sets, fresh_state, fresh_sets}
use Rattle.theory.specs.feeding.Feeding.{Checker, after_all, by_clocks, by_sets, fed, set_fed}

-- A reckoning, as it is asked about task u's access to variable v that it keeps for accesses of kind k

pub record Reckoning (S : Type 0) : Type 0 where
  pub checker : Checker S
  -- the record number of that access, 0 where there is none
  pub number : S → (k v u : ℕ) → ℕ
  -- whether order from it is said not to have come to task t, as it arrived and in the fullest filling
  pub apart : S → (k t v u : ℕ) → Bool
  pub apart_in_full : S → (k t v u : ℕ) → Bool
  -- the masks that a host gets which asks about a record before it is fed
  pub masks : S → Record → Masks

abbrev pub clock_reckoning : Reckoning State
clock_reckoning =
    record {
      checker = by_clocks;
      number = λ s. latest_number s.last;
      apart = λ s. clock_apart s.clocks s.last;
      apart_in_full = λ s. clock_apart s.fullclocks s.last;
      masks = apart_by_clocks;
    }

abbrev pub set_reckoning : Reckoning SetState
set_reckoning =
    record {
      checker = by_sets;
      number = λ s. latest_number s.last;
      apart = λ s. set_apart s.sets s.last;
      apart_in_full = λ s. set_apart s.fullsets s.last;
      masks = apart_by_sets;
    }

-- the state that a list of records leaves, from a fresh one
abbrev pub left_by : {S : Type 0} → Reckoning S → List Record → S
left_by x = after_all x.checker x.checker.fresh

-- What Order has

-- `Retained es p v u i`: at place i of the recording stands task u's latest access to variable v that clashes with an access of op p, and no fresh of v
-- stands after it
pub record Retained (es : List Event) (p : Op) (v u i : ℕ) : Type 0 where
  pub op : Op
  pub at : At es i (act op u v)
  pub clash : T (clashes op p)
  pub latest : (j : ℕ) (o : Op) → At es j (act o u v) → T (clashes o p) → j ≤ i
  pub since : (j t : ℕ) → At es j (act fresh t v) → j ≤ i

-- where the record at place i of a recording stands in its fullest filling: behind all that comes before it there
abbrev pub in_fullest : List Event → ℕ → ℕ
in_fullest es i = length (fullest (ListN.take i es))

-- a path from the record at place i to that at place k, in the fullest filling
abbrev pub FullestPath : List Event → ℕ → ℕ → Type 0
FullestPath es i k = HappensBefore (fullest es) (in_fullest es i) (in_fullest es k)

-- of the records at places i and k "path" is said exactly where there is one, as it arrived and in the fullest filling
pub record ExactBetween (es : List Event) (i k : ℕ) (apart apart_in_full : Bool) : Type 0 where
  pub as_arrived : T (not apart) ↔ HappensBefore es i k
  pub in_fullest_lem : T (not apart_in_full) ↔ FullestPath es i k

-- The claim

-- the state s says so of every access that is kept after the recording es, and of the act r that comes next, by what it says of r's task
abbrev pub SaysPaths : {S : Type 0} → Reckoning S → S → List Event → Record → Type 0
SaysPaths x s es r =
    (p : Op) (v u i : ℕ) →
    Retained es p v u i →
    ExactBetween (es ++ (event_of r ∷ [])) i (length es) (x.apart s (kind p) r.task v u) (x.apart_in_full s (kind p) r.task v u)

-- order can come to a take, a look and a join from elsewhere than from their own task (steps 2, 3 and 5)
abbrev pub acquiring : Op → Bool
acquiring o = o is take || o is look || o is join

pub record PathsAfter {S : Type 0} (x : Reckoning S) (rs : List Record) : Type 0 where
  -- it keeps what it should
  pub keeps : (p : Op) (v u i : ℕ) → T (is_access p) → v < variables → u < tasks →
      (x.number (left_by x rs) (kind p) v u ≡ suc i) ↔ Retained (recording rs) p v u i
  -- where it keeps no access, it says of none that it is apart
  pub keeps_none : (k t v u : ℕ) → x.number (left_by x rs) k v u ≡ 0 →
      (x.apart (left_by x rs) k t v u ≡ false) × (x.apart_in_full (left_by x rs) k t v u ≡ false)
  -- an access that comes next, or another act to which order comes from its own task alone: the state says it before that act is fed
  pub before : (r : Record) → refusal (recording rs) r ≡ 0 → is_act r ≡ true → acquiring (op_of r.kind) ≡ false →
      SaysPaths x (left_by x rs) (recording rs) r
  -- any act that comes next but a fresh, by which accesses are kept no longer: the state says it once that act is fed. Where that act is itself
  -- kept in the access's place, both are of one task
  pub after : (r : Record) → refusal (recording rs) r ≡ 0 → is_act r ≡ true → has_kind r fresh ≡ false →
      SaysPaths x (x.checker.next (left_by x rs) r) (recording rs) r

-- after every list of records
abbrev pub ExactPaths : {S : Type 0} → Reckoning S → Type 0
ExactPaths x = (rs : List Record) → PathsAfter x rs

-- What a host is told of an access that comes next

-- task u's access to variable v that is kept for accesses of op p has no path to the record f that comes next
abbrev pub RetainedApart : (List Event → ℕ → ℕ → Type 0) → List Event → Event → Op → ℕ → ℕ → Type 0
RetainedApart Ordered es f p v u = (i : ℕ) × Retained es p v u i × (¬ Ordered (es ++ (f ∷ [])) i (length es))

-- the masks have the bits of the tasks whose access that is kept for the access r has no path to it
pub record ExactMasks (es : List Event) (r : Record) (masks : Masks) : Type 0 where
  pub as_arrived : (u : ℕ) → u < tasks → T (bit masks.arrived u) ↔ RetainedApart HappensBefore es (event_of r) (op_of r.kind) r.on u
  pub in_fullest_lem : (u : ℕ) → u < tasks → T (bit masks.full u) ↔ RetainedApart FullestPath es (event_of r) (op_of r.kind) r.on u

abbrev pub TellsPaths : {S : Type 0} → Reckoning S → Type 0
TellsPaths x =
    (rs : List Record) (r : Record) → refusal (recording rs) r ≡ 0 → accesses r.kind ≡ true → ExactMasks (recording rs) r (x.masks (left_by x rs) r)

-- The match

-- after every list of records from a fresh state clocks and sets answered each record alike, and whatever record comes next, they say the
-- same of every path that they are asked about, as it arrived and in the fullest filling
pub record Match (rs : List Record) : Type 0 where
  pub answers : fed rs ≡ set_fed rs
  pub paths : (r : Record) → apart_by_clocks (after_all by_clocks fresh_state rs) r ≡ apart_by_sets (after_all by_sets fresh_sets rs) r

abbrev pub ReckoningsMatch : Type 0
ReckoningsMatch = (rs : List Record) → Match rs
