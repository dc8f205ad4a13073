-- Paths by places, as specs/order/Path.antt has them, and paths by what lies between, as Leads.antt has them, are the same; and the records
-- that arrived stand in what is filled in as they stood in the recording. Assumes nothing.
use mathlib.Core.List.{List, [], ◌∷◌}
use Prim.Native.Nat.{ℕ, zero, suc, ◌<◌, zero-le, suc-le-suc}
use native.Mathlib.Nat.{le_of_suc-le-suc, not-suc-le-zero}
use native.Mathlib.Omega.{arith}
use Rattle.theory.specs.order.Recording.{Event, At, here, there}
use Rattle.theory.specs.order.Path.{Step, StepAt, HappensBefore, one, more}
use Rattle.theory.proofs.order.Leads.{Leads, last, over, via}

-- Definition

-- the list has f at place k, and `before` is what stands before it
pub data Ends : List Event → ℕ → List Event → Event → Type 0 where
  ends : {f : Event} {es : List Event} → Ends (f ∷ es) zero [] f
  onward : {x f : Event} {es before : List Event} {k : ℕ} → Ends es k before f → Ends (x ∷ es) (suc k) (x ∷ before) f

-- the list has e at place i, and `after` is what stands after it
pub data Occurs : List Event → ℕ → Event → List Event → Type 0 where
  first : {e : Event} {after : List Event} → Occurs (e ∷ after) zero e after
  next : {x e : Event} {es after : List Event} {i : ℕ} → Occurs es i e after → Occurs (x ∷ es) (suc i) e after

-- nothing stands in the empty list
pub nowhere : {i : ℕ} {e : Event} {after : List Event} → ¬ Occurs [] i e after
nowhere o = elim o [ ]

-- Places

pub at_ends : {es : List Event} {k : ℕ} {f : Event} → At es k f → (before : List Event) × Ends es k before f
at_ends here = ([], ends)
at_ends (there a) = let (before, d) = at_ends a in (_, onward d)

pub ends_at : {es before : List Event} {k : ℕ} {f : Event} → Ends es k before f → At es k f
ends_at ends = here
ends_at (onward d) = there (ends_at d)

pub at_occurs : {es before : List Event} {i k : ℕ} {e f : Event} → Ends es k before f → At es i e → i < k → (mid : List Event) × Occurs before i e mid
at_occurs ends here h = absurd (not-suc-le-zero h)
at_occurs ends (there a) h = absurd (not-suc-le-zero h)
at_occurs (onward d) here h = (_, first)
at_occurs (onward d) (there a) h = let (mid, o) = at_occurs d a (le_of_suc-le-suc h) in (mid, next o)

pub occurs_at : {es before mid : List Event} {i k : ℕ} {e f : Event} → Ends es k before f → Occurs before i e mid → At es i e
occurs_at ends o = elim o [ ]
occurs_at (onward d) first = here
occurs_at (onward d) (next o) = there (occurs_at d o)

pub occurs_before : {es before mid : List Event} {i k : ℕ} {e f : Event} → Ends es k before f → Occurs before i e mid → i < k
occurs_before ends o = elim o [ ]
occurs_before (onward d) first = suc-le-suc zero-le
occurs_before (onward d) (next o) = suc-le-suc (occurs_before d o)

at_tail : {x e : Event} {es : List Event} {i : ℕ} → At (x ∷ es) (suc i) e → At es i e
at_tail (there a) = a

-- what is true of the event that stands at a place is true of the one known to stand there
from_first : {e d f : Event} {es : List Event} → At (e ∷ es) zero d → Step d f → Step e f
from_first here s = s

pub to_last : (P : Event → Type 0) {d f : Event} {es before : List Event} {k : ℕ} → Ends es k before f → At es k d → P d → P f
to_last P ends here s = s
to_last P (onward o) (there a) s = to_last P o a s

-- Moving a path along the list

step_on : {x : Event} {es : List Event} {i j : ℕ} → StepAt es i j → StepAt (x ∷ es) (suc i) (suc j)
step_on s = record { e = s.e; f = s.f; from = there s.from; to = there s.to; later = suc-le-suc s.later; step = s.step }

step_back : {x : Event} {es : List Event} {i j : ℕ} → StepAt (x ∷ es) (suc i) (suc j) → StepAt es i j
step_back s = record { e = s.e; f = s.f; from = at_tail s.from; to = at_tail s.to; later = le_of_suc-le-suc s.later; step = s.step }

pub path_on : {x : Event} {es : List Event} {i j : ℕ} → HappensBefore es i j → HappensBefore (x ∷ es) (suc i) (suc j)
path_on (one s) = one (step_on s)
path_on (more s p) = more (step_on s) (path_on p)

pub path_back : {x : Event} {es : List Event} {i j : ℕ} → HappensBefore (x ∷ es) (suc i) (suc j) → HappensBefore es i j
path_back (one s) = one (step_back s)
path_back (more {j = zero} s p) = absurd (not-suc-le-zero s.later)
path_back (more {j = suc j} s p) = more (step_back s) (path_back p)

pub path_later : {es : List Event} {i k : ℕ} → HappensBefore es i k → i < k
path_later (one s) = s.later
path_later (more s p) = let h = path_later p in let l = s.later in omega arith

-- an event put in or left out behind the first one
step_in : {e x : Event} {es : List Event} {j : ℕ} → StepAt (e ∷ es) zero (suc j) → StepAt (e ∷ (x ∷ es)) zero (suc (suc j))
step_in s = record { e = _; f = s.f; from = here; to = there (there (at_tail s.to)); later = suc-le-suc zero-le; step = from_first s.from s.step }

step_out : {e x : Event} {es : List Event} {j : ℕ} → StepAt (e ∷ (x ∷ es)) zero (suc (suc j)) → StepAt (e ∷ es) zero (suc j)
step_out s = record { e = _; f = s.f; from = here; to = there (at_tail (at_tail s.to)); later = suc-le-suc zero-le; step = from_first s.from s.step }

path_in : {e x : Event} {es : List Event} {k : ℕ} → HappensBefore (e ∷ es) zero (suc k) → HappensBefore (e ∷ (x ∷ es)) zero (suc (suc k))
path_in (one s) = one (step_in s)
path_in (more {j = zero} s p) = absurd (not-suc-le-zero s.later)
path_in (more {j = suc j} s p) = more (step_in s) (path_on (path_on (path_back p)))

-- Paths by places and paths by what lies between

leads_first : {e f : Event} {es mid : List Event} {k : ℕ} → Ends es k mid f → Leads e mid f → HappensBefore (e ∷ es) zero (suc k)
leads_first ends (last s) = one (record { e = _; f = _; from = here; to = there here; later = suc-le-suc zero-le; step = s })
leads_first (onward d) (over p) = path_in (leads_first d p)
leads_first (onward d) (via s p) =
    more (record { e = _; f = _; from = here; to = there here; later = suc-le-suc zero-le; step = s }) (path_on (leads_first d p))

first_leads : {e f : Event} {es mid : List Event} {k : ℕ} → Ends es k mid f → HappensBefore (e ∷ es) zero (suc k) → Leads e mid f
first_leads ends (one s) = last (to_last (Step _) ends (at_tail s.to) (from_first s.from s.step))
first_leads ends (more s p) = absurd (not-suc-le-zero (le_of_suc-le-suc (lt_trans_step s.later (path_later p))))
  where
    lt_trans_step : {i j k : ℕ} → i < j → j < k → suc i < k
    lt_trans_step h l = omega arith
first_leads (onward d) (one s) = over (first_leads d (one (step_out s)))
first_leads (onward d) (more {j = zero} s p) = absurd (not-suc-le-zero s.later)
first_leads (onward d) (more {j = suc zero} s p) = via (to_last (Step _) ends (at_tail s.to) (from_first s.from s.step)) (first_leads d (path_back p))
first_leads (onward d) (more {j = suc (suc j)} s p) = over (first_leads d (more (step_out s) (path_on (path_back (path_back p)))))

pub leads_path : {e f : Event} {es before mid : List Event} {i k : ℕ} → Ends es k before f → Occurs before i e mid → Leads e mid f → HappensBefore es i k
leads_path ends o p = elim o [ ]
leads_path (onward d) first p = leads_first d p
leads_path (onward d) (next o) p = path_on (leads_path d o p)

pub path_leads : {e f : Event} {es before mid : List Event} {i k : ℕ} → Ends es k before f → Occurs before i e mid → HappensBefore es i k → Leads e mid f
path_leads ends o p = elim o [ ]
path_leads (onward d) first p = first_leads d p
path_leads (onward d) (next o) p = path_leads d o (path_back p)
