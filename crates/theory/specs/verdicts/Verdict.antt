-- Racy accesses, the three verdicts and the partner (`with`).
use Rattle.std.specs.Prelude.{ℕ, zero, suc, ◌-◌, ◌≤◌, ◌<◌, List, T, take, drop}
use Rattle.theory.specs.order.Recording.{Op, Event, act, At, is_access}
use Rattle.theory.specs.order.Path.{HappensBefore, Against}
use Rattle.theory.specs.fillings.Completion.{Completion, place}

-- "verdict"
pub data Verdict : Type 0 where
  Race Clear Doubt : Verdict

-- an access stands at place k of the recording
pub record AccessAt (es : List Event) (k : ℕ) : Type 0 where
  pub op : Op
  pub task : ℕ
  pub on : ℕ
  pub at : At es k (act op task on)
  pub access : T (is_access op)

-- what stands between places i and k
abbrev pub between : List Event → ℕ → ℕ → List Event
between es i k = take (k - suc i) (drop (suc i) es)

-- "an earlier conflicting access": task t acts at place i, before place k, and the two accesses there conflict
pub record Earlier (es : List Event) (t i k : ℕ) : Type 0 where
  pub e : Event
  pub f : Event
  pub from : At es i e
  pub to : At es k f
  pub before : i < k
  pub against : Against t e (between es i k) f

-- "racy", of the access at place k in one completion: an earlier access of the recording conflicts with it, and no path in the
-- completion leads from that one to it
abbrev pub Racy : {es fs : List Event} → Completion es fs → ℕ → Type 0
Racy {es} {fs} c k = (t : ℕ) × (i : ℕ) × Earlier es t i k × (¬ HappensBefore fs (place c i) (place c k))

-- the same in the recording itself, as demand 2 has it: "an earlier conflicting access has no happens-before path to it"
abbrev pub Unordered : List Event → ℕ → Type 0
Unordered es k = (t : ℕ) × (i : ℕ) × Earlier es t i k × (¬ HappensBefore es i k)

-- "latest conflicting earlier access" of task t
pub record Latest (es : List Event) (t i k : ℕ) : Type 0 where
  pub earlier : Earlier es t i k
  pub latest : (j : ℕ) → Earlier es t j k → j ≤ i

-- the partner: among the tasks whose latest conflicting earlier access is apart from the access at k, the lowest-numbered task, and
-- i is its latest such access
pub record Partner (Apart : ℕ → Type 0) (es : List Event) (i k : ℕ) : Type 0 where
  pub task : ℕ
  pub latest : Latest es task i k
  pub apart : Apart i
  pub lowest : (t j : ℕ) → Latest es t j k → Apart j → task ≤ t

-- "has no path to this one in any completion"
abbrev pub ApartInAll : List Event → ℕ → ℕ → Type 0
ApartInAll es k i = (fs : List Event) (c : Completion es fs) → ¬ HappensBefore fs (place c i) (place c k)

-- no path "in the recording as it arrived"
abbrev pub ApartAsArrived : List Event → ℕ → ℕ → Type 0
ApartAsArrived es k i = ¬ HappensBefore es i k

-- "`with`": the record number of the partner, 0 for Clear
pub data With (es : List Event) (k : ℕ) : Verdict → ℕ → Type 0 where
  clear : With es k Clear zero
  race : {i : ℕ} → Partner (ApartInAll es k) es i k → With es k Race (suc i)
  doubt : {i : ℕ} → Partner (ApartAsArrived es k) es i k → With es k Doubt (suc i)
