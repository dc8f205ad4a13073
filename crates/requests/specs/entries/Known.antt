-- F-7: what a planner has accepted, which Races are known by it, and their partner. proofs/entries proves it of `excuse`, for every list of records.
use Rattle.std.specs.Prelude.{ℕ, suc, ◌≤◌, ◌<◌, ◌≡◌, Bool, true, false, cond, ◌&&◌, ◌||◌, ◌↔◌, List, [], ◌∷◌, ◌++◌, eqb, length}
use Rattle.theory.specs.declared.record.Record.{Record}
use Rattle.theory.specs.declared.state.State.{State}
use Rattle.requests.specs.declared.excuse.Excuse.{Excuse}
use Rattle.theory.specs.order.Limits.{tasks, variables, entries}
use Rattle.theory.specs.order.Recording.{Event, event_of, accesses}
use Rattle.theory.specs.acceptance.Table.{refusal, recording}
use Rattle.theory.specs.verdicts.Verdict.{Race, Latest, ApartInAll}
use Rattle.theory.specs.feeding.Meaning.{judges, meaning}
use Rattle.theory.specs.feeding.Step.{fresh_state, fresh_control}
use Rattle.theory.specs.feeding.Feeding.{by_clocks, after_all}
use Rattle.requests.specs.entries.Table.{after_entry, excuse}

-- an entry that is taken in: a fault of a variable between two tasks, accepted or open
pub record Fault : Type 0 where
  pub variable : ℕ
  pub low : ℕ
  pub high : ℕ
  pub accepted : Bool

-- its numbers are in their ranges, "low being smaller"
pub record Fits (f : Fault) : Type 0 where
  pub variable_fits : f.variable < variables
  pub lower : f.low < f.high
  pub high_fits : f.high < tasks

-- so are all of a list's
pub data AllFit : List Fault → Type 0 where
  none_left : AllFit []
  and_fits : {f : Fault} {fs : List Fault} → Fits f → AllFit fs → AllFit (f ∷ fs)

-- it is of the variable v and of the tasks t and u
abbrev pub concerns : Fault → ℕ → ℕ → ℕ → Bool
concerns f v t u = eqb f.variable v && ((eqb f.low t && eqb f.high u) || (eqb f.low u && eqb f.high t))

-- whether t and u are paired as accepted for v, b having been so before: "Of two entries for the same variable and pair the later line holds"
abbrev pub paired_from : Bool → List Fault → ℕ → ℕ → ℕ → Bool
paired_from b [] v t u = b
paired_from b (f ∷ fs) v t u = paired_from (cond (concerns f v t u) f.accepted b) fs v t u

abbrev pub paired : List Fault → ℕ → ℕ → ℕ → Bool
paired = paired_from false

-- the control table once these were taken in, one after the other
abbrev pub entered_all : List Fault → List ℕ → List ℕ
entered_all [] control = control
entered_all (f ∷ fs) control = entered_all fs (after_entry f.variable f.low f.high f.accepted control)

abbrev pub start_with : List Fault → State
start_with fs = record { control = entered_all fs fresh_control; last = fresh_state.last; clocks = fresh_state.clocks; fullclocks = fresh_state.fullclocks }

-- of the tasks whose latest conflicting access has no path here in any completion and that are not paired, the lowest, and its access at place i
pub record OpenPartner (Paired : ℕ → Bool) (es : List Event) (i k : ℕ) : Type 0 where
  pub task : ℕ
  pub latest : Latest es task i k
  pub apart : ApartInAll es k i
  pub unpaired : Paired task ≡ false
  pub lowest : (u j : ℕ) → Latest es u j k → ApartInAll es k j → Paired u ≡ false → task ≤ u

-- how a Race at place k is reported, w being its partner by document 01
pub record Reported (Paired : ℕ → Bool) (es : List Event) (k w : ℕ) (x : Excuse) : Type 0 where
  -- "A Race prints as `known` if every task whose latest conflicting access has no path here in any completion is paired as accepted"
  pub known : (x.known ≡ true) ↔ ((u i : ℕ) → Latest es u i k → ApartInAll es k i → Paired u ≡ true)
  -- "its `with` is that of document 01"
  pub with_known : x.known ≡ true → x.partner.0 ≡ w
  -- "Otherwise `with` is taken among the tasks not so paired"
  pub with_open : x.known ≡ false → (i : ℕ) × (x.partner.0 ≡ suc i) × OpenPartner Paired es i k

-- for any entries, one at least and no more than are taken in, and every list of records after them
abbrev pub FaultsKnown : Type 0
FaultsKnown =
    (fs : List Fault) → AllFit fs → 0 < length fs → length fs ≤ entries →
    (rs : List Record) (r : Record) → refusal (recording rs) r ≡ 0 → accesses r.kind ≡ true →
    (n w : ℕ) → meaning (by_clocks.answer (after_all by_clocks (start_with fs) rs) r) ≡ judges n Race w →
    Reported (paired fs r.on r.task) (recording rs ++ (event_of r ∷ [])) (length (recording rs)) w
    (excuse (by_clocks.next (after_all by_clocks (start_with fs) rs) r) r w)
