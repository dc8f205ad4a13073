-- Records and recordings ("What a record says").
use Rattle.std.specs.Prelude.{ℕ, zero, suc, List, [], ◌∷◌, Bool, true, false, cond, eqb, get_or}
use Rattle.theory.specs.order.Limits.{tasks, semaphores, flags, variables, profiles}
use Rattle.theory.specs.declared.record.Record.{Record}

-- "op": what an acting task does. `lost` is no op of a task, see below.
pub data Op : Type 0 where
  read write take give look set start join fresh miss bump owned : Op

-- "record", one that says something: an act, with its op, its acting task and its number (`on`), or a loss mark, with its mask.
-- A recording is a list of these, in the order in which they came. Record number n, counted from 1, stands at place n - 1 of the list.
pub data Event : Type 0 where
  act : (op : Op) (task on : ℕ) → Event
  lost : (mask : ℕ) → Event

-- what an act does to the phase of the task that it names ("Task 0 is live in a fresh state, the others are unseen. .."): nothing, makes it
-- live, or ends it
pub data Effect : Type 0 where
  keeps begins ends : Effect

-- "access": a read, a write or a bump. The kinds of access are numbered, for their histories (History.antt)
pub data Access : Type 0 where
  no_access : Access
  access : ℕ → Access

abbrev pub accessing : Access → Bool
accessing no_access = false
accessing (access n) = true

abbrev pub access_number : Access → ℕ
access_number no_access = 0
access_number (access n) = n

-- the series that the number of an act is of, `on`: "Task numbers, semaphore numbers and variable numbers are separate series; so are flag numbers"
pub data Series : Type 0 where
  task semaphore flag variable profile : Series

-- how many numbers it has: those below its size
abbrev pub size_of : Series → ℕ
size_of task = tasks
size_of semaphore = semaphores
size_of flag = flags
size_of variable = variables
size_of profile = profiles

-- What differs from op to op, but for the steps that it makes and the conflicts that it has (Path.antt)
pub record Features : Type 0 where
  -- its kind number, in a record that is fed; numbers are added and never reused
  pub kind : ℕ
  pub series : Series
  pub access : Access
  -- a completion may put it: takes, gives, looks, sets and misses. Starts and joins are resent until they arrive, and lost accesses lie outside: a
  -- verdict is about accesses that arrived
  pub losable : Bool
  pub effect : Effect

abbrev pub features : ℕ → Series → Access → Bool → Effect → Features
features k s a l e = record { kind = k; series = s; access = a; losable = l; effect = e }

-- the table of ops: kind, series, access, can be lost, effect
abbrev pub about : Op → Features
about read = features 0 variable (access 0) false keeps
about write = features 1 variable (access 1) false keeps
about take = features 2 semaphore no_access true keeps
about give = features 3 semaphore no_access true keeps
about look = features 4 flag no_access true keeps
about set = features 5 flag no_access true keeps
about start = features 6 task no_access false begins
about join = features 7 task no_access false ends
about fresh = features 9 variable no_access false keeps
about miss = features 10 semaphore no_access true keeps
about bump = features 11 variable (access 2) false keeps
about owned = features 12 profile no_access false keeps

abbrev pub kind : Op → ℕ
kind o = (about o).kind

abbrev pub series : Op → Series
series o = (about o).series

abbrev pub is_access : Op → Bool
is_access o = accessing (about o).access

abbrev pub losable : Op → Bool
losable o = (about o).losable

-- the kind number of a loss mark
abbrev pub loss_mark : ℕ
loss_mark = 8

-- the kinds of records by their numbers: each is an op's, or that of a loss mark
pub data Kind : Type 0 where
  of_op : Op → Kind
  of_mark : Kind

abbrev pub kinds : List Kind
kinds =
    of_op read ∷ of_op write ∷ of_op take ∷ of_op give ∷ of_op look ∷ of_op set ∷ of_op start ∷ of_op join
    ∷ of_mark
    ∷ of_op fresh ∷ of_op miss ∷ of_op bump ∷ of_op owned
    ∷ []

abbrev pub numbered_kind : ℕ → Kind
numbered_kind k = get_or kinds k of_mark

-- the op of a kind; a read where it has none, which is never asked
abbrev pub kind_op : Kind → Op
kind_op (of_op o) = o
kind_op of_mark = read

abbrev pub op_of : ℕ → Op
op_of k = kind_op (numbered_kind k)

-- the size of the series of kind number k
abbrev pub series_size : ℕ → ℕ
series_size k = size_of (series (op_of k))

-- the kind is an access
abbrev pub kind_accesses : Kind → Bool
kind_accesses (of_op o) = is_access o
kind_accesses of_mark = false

abbrev pub accesses : ℕ → Bool
accesses k = kind_accesses (numbered_kind k)

-- what a record that is fed says, if its kind is one of these
abbrev pub event_of : Record → Event
event_of r = cond (eqb r.kind loss_mark) (lost r.on) (act (op_of r.kind) r.task r.on)

-- whether two ops are the same
infix 40 ◌is◌
abbrev pub ◌is◌ : Op → Op → Bool
o is p = eqb (kind o) (kind p)

-- `At es i e`: the event e stands at place i of the list es, counted from 0
pub data At : List Event → ℕ → Event → Type 0 where
  here : {e : Event} {es : List Event} → At (e ∷ es) zero e
  there : {d e : Event} {es : List Event} {i : ℕ} → At es i e → At (d ∷ es) (suc i) e

-- every event of the list is as P says
pub data Every (P : Event → Type 0) : List Event → Type 0 where
  no_more : Every P []
  and_more : {e : Event} {es : List Event} → P e → Every P es → Every P (e ∷ es)

-- task t acts in the event
pub data ActsIn (t : ℕ) : Event → Type 0 where
  acts : {o : Op} {n : ℕ} → ActsIn t (act o t n)

-- a recording without loss marks
pub data Unmarked : List Event → Type 0 where
  no_events : Unmarked []
  an_act : {o : Op} {t n : ℕ} {es : List Event} → Unmarked es → Unmarked (act o t n ∷ es)
