-- F-11: which two records are unrelated: "Two gateways may write down unrelated records either way round".
use Rattle.std.specs.Prelude.{ℕ, ◌≡◌, Bool, ◌||◌, ◌≢◌, [], ◌∷◌, T}
use Rattle.theory.specs.declared.record.Record.{Record}
use Rattle.theory.specs.order.Recording.{Op, read, miss, bump, Series, task, semaphore, flag, variable, profile, series, Event, act, event_of, ActsIn, Unmarked, ◌is◌}

-- the record is an act that names number n of the series
pub data Names (x : Series) (n : ℕ) : Event → Type 0 where
  names : {o : Op} {t : ℕ} → series o ≡ x → Names x n (act o t n)

-- the ops of which two may have a variable in common: "two reads or two bumps"
abbrev pub sharing : Op → Bool
sharing o = o is read || o is bump

pub data MayShare : Event → Event → Type 0 where
  may_share : {o : Op} {t u n m : ℕ} → T (sharing o) → MayShare (act o t n) (act o u m)

-- the premises, by name, and what each says of two records
pub data Premise : Type 0 where
  two_acts actors_differ names_no_actor names_no_same no_semaphore no_flag no_variable none_owned : Premise

abbrev pub Holds : Premise → Event → Event → Type 0
-- "neither is a loss mark"
Holds two_acts e f = Unmarked (e ∷ (f ∷ []))
-- "different tasks act"
Holds actors_differ e f = (t : ℕ) → ActsIn t e → ¬ ActsIn t f
-- "neither names a task that acts in .. the other"
Holds names_no_actor e f = (t : ℕ) → (Names task t e → ¬ ActsIn t f) × (Names task t f → ¬ ActsIn t e)
-- "neither names a task that .. is named by the other"
Holds names_no_same e f = (t : ℕ) → Names task t e → ¬ Names task t f
-- "they have no semaphore .. in common"
Holds no_semaphore e f = (s : ℕ) → Names semaphore s e → ¬ Names semaphore s f
-- "no .. flag .. in common"
Holds no_flag e f = (x : ℕ) → Names flag x e → ¬ Names flag x f
-- "no .. variable in common, except two reads or two bumps"
Holds no_variable e f = (v : ℕ) → Names variable v e → Names variable v f → MayShare e f
-- "a swap as in F-11 never moves it": neither is an `owned`
Holds none_owned e f = (n : ℕ) → (¬ Names profile n e) × (¬ Names profile n f)

-- all of them
pub record Unrelated (e f : Event) : Type 0 where
  pub holds : (q : Premise) → Holds q e f

-- of records as they are fed
abbrev pub UnrelatedRecords : Record → Record → Type 0
UnrelatedRecords r q = Unrelated (event_of r) (event_of q)

-- The premise about semaphores is document 02's, and is needed (Examples.antt). Only where one of the two is a miss it is not: "A miss makes no step 2 ..
-- It leaves the semaphore as it was." Such records meet the other premises, and swaps of them change nothing either
pub data OneMisses : Event → Event → Type 0 where
  first_misses : {t s : ℕ} {f : Event} → OneMisses (act miss t s) f
  second_misses : {e : Event} {t s : ℕ} → OneMisses e (act miss t s)

pub record UnrelatedByMiss (e f : Event) : Type 0 where
  pub misses : OneMisses e f
  pub others : (q : Premise) → q ≢ no_semaphore → Holds q e f

abbrev pub MissedRecords : Record → Record → Type 0
MissedRecords r q = UnrelatedByMiss (event_of r) (event_of q)
