-- Steps and paths ("Order"), and which accesses conflict.
use Rattle.std.specs.Prelude.{ℕ, ◌<◌, List, [], ◌∷◌, ◌≢◌, Bool, false, ◌&&◌, ◌||◌, T}
use Rattle.theory.specs.order.Recording.{Op, read, write, bump, take, give, look, set, start, join, fresh, Event, act, At, Every, ActsIn, is_access, ◌is◌}

-- "step", by what the two records say: the five lines of document 01, in their order. A loss mark has no step to or from it.
pub data Step : Event → Event → Type 0 where
  same_task : {o p : Op} {t n m : ℕ} → Step (act o t n) (act p t m)
  gives_takes : {t u s : ℕ} → Step (act give t s) (act take u s)
  sets_looks : {t u f : ℕ} → Step (act set t f) (act look u f)
  starts : {p : Op} {t u m : ℕ} → Step (act start t u) (act p u m)
  joins : {o : Op} {t u n : ℕ} → Step (act o u n) (act join t u)

-- "a step from record i to a later record j" of a list, by their places
pub record StepAt (es : List Event) (i j : ℕ) : Type 0 where
  pub e : Event
  pub f : Event
  pub from : At es i e
  pub to : At es j f
  pub later : i < j
  pub step : Step e f

-- "path": one or more steps. This is the happens-before relation.
pub data HappensBefore (es : List Event) : ℕ → ℕ → Type 0 where
  one : {i j : ℕ} → StepAt es i j → HappensBefore es i j
  more : {i j k : ℕ} → StepAt es i j → HappensBefore es j k → HappensBefore es i k

-- a row of the table of conflicts: a kind of access, and with which of the kinds up to its own row it clashes
pub record ConflictRow : Type 0 where
  pub access : Op
  pub others : List Op

infix 30 ◌versus◌
abbrev pub ◌versus◌ : Op → List Op → ConflictRow
o versus ps = record { access = o; others = ps }

-- the table: "at least one writes"; "Two bumps never conflict. A bump conflicts with a read and with a write"
abbrev pub conflict_rows : List ConflictRow
conflict_rows = (read versus []) ∷ (write versus (read ∷ write ∷ [])) ∷ (bump versus (read ∷ write ∷ [])) ∷ []

abbrev pub is_among : List Op → Op → Bool
is_among [] p = false
is_among (q ∷ qs) p = p is q || is_among qs p

-- p stands in the row of o
abbrev pub in_row : List ConflictRow → Op → Op → Bool
in_row [] o p = false
in_row (x ∷ xs) o p = (o is x.access && is_among x.others p) || in_row xs o p

-- which two accesses clash: one stands in the row of the other
unfoldable pub rule : Op → Op → Bool
rule o p = in_row conflict_rows o p || in_row conflict_rows p o

abbrev pub clashes : Op → Op → Bool
clashes o p = is_access o && (is_access p && rule o p)

-- "two accesses conflict": the variable is the same, the tasks differ and they clash
pub data Conflict : Event → Event → Type 0 where
  conflict : {o p : Op} {t u v : ℕ} → t ≢ u → T (clashes o p) → Conflict (act o t v) (act p u v)

-- a fresh "empties the access history of variable V": of the one that f accesses
pub data Empties : Event → Event → Type 0 where
  empties : {p : Op} {t u v : ℕ} → Empties (act fresh t v) (act p u v)

-- task t's access e is one that a later access f is held against, `mid` being what stands between the two: they conflict, and e is one of the
-- "accesses since the last fresh of that variable"
pub record Against (t : ℕ) (e : Event) (mid : List Event) (f : Event) : Type 0 where
  pub by : ActsIn t e
  pub conflict : Conflict e f
  pub since : Every (λ d. ¬ Empties d f) mid
