-- Nodes and the rows that the tables have for them: one row for each node in range. That a task has acted has none: where it has, order
-- that has come to its next act has come to that (fillings/HasActed.antt). Assumes nothing.
use mathlib.Core.Path.{◌≡◌, refl, sym, ◌∙◌, ap}
use mathlib.Core.Bool.{Bool, true, false, cond, ◌&&◌}
use mathlib.Core.Logic.{◌⊎◌, inl, inr}
use Prim.Native.Nat.{ℕ, ◌+◌, ◌-◌, ◌≤◌, ◌<◌}
use native.Mathlib.Omega.{arith}
use borrow.Author.Tests.{lt-ltb, le-ltb}
use lib.Dec.{ltb}
use Rattle.theory.specs.order.Recording.{Op, take, give, look, set, start, join, act, series, size_of, kind, ◌is◌}
use Rattle.theory.specs.tables.Rows.{acquired_row, released_row, hub, flag_row, semaphore_row}
use Rattle.theory.specs.order.Limits.{tasks, semaphores, flags}
use Rattle.theory.proofs.order.Ops.{Plain, Role, a_take, a_give, a_look, a_set, a_start, a_join, plain, role}
use Rattle.theory.proofs.order.Carry.{Node, due, acted, semaphore, flag, Acquires, own, by_take, by_look, by_join, Releases, own_next, own_acted, by_give, by_set, by_start}

-- Rows

-- of a node in range; what is written for `acted` is never asked
abbrev pub row : Node → ℕ
row (due t) = t
row (acted t) = t
row (semaphore s) = semaphore_row s
row (flag f) = flag_row f

pub data InRange : Node → Type 0 where
  due_in : {t : ℕ} → t < tasks → InRange (due t)
  semaphore_in : {s : ℕ} → s < semaphores → InRange (semaphore s)
  flag_in : {f : ℕ} → f < flags → InRange (flag f)

-- the semaphores and flags
pub data Object : Node → Type 0 where
  a_semaphore : {s : ℕ} → s < semaphores → Object (semaphore s)
  a_flag : {f : ℕ} → f < flags → Object (flag f)

pub object_row_lem : {n : Node} → Object n → tasks ≤ row n
object_row_lem (a_semaphore h) = omega arith
object_row_lem (a_flag h) = omega arith

pub row_below : {n : Node} → InRange n → row n < hub
row_below (due_in h) = omega arith
row_below (semaphore_in h) = omega arith
row_below (flag_in h) = omega arith

abbrev pub node : ℕ → Node
node r = cond (ltb r tasks) (due r) (cond (ltb r (tasks + semaphores)) (semaphore (r - tasks)) (flag (r - (tasks + semaphores))))

minus : (k n : ℕ) → k + n - k ≡ n
minus k n = omega arith

pub node_row : {n : Node} → InRange n → node (row n) ≡ n
node_row (due_in {t = t} h) = rw (lt-ltb t tasks h)
node_row (semaphore_in {s = s} h) = rw (le-ltb (semaphore_row s) tasks (omega arith), lt-ltb (semaphore_row s) (tasks + semaphores) (omega arith), minus tasks s)
node_row (flag_in {f = f} h) = rw (le-ltb (flag_row f) tasks (omega arith), le-ltb (flag_row f) (tasks + semaphores) (omega arith), minus (tasks + semaphores) f)

-- the row tells the node
pub row_one : {n m : Node} → InRange n → InRange m → row n ≡ row m → n ≡ m
row_one a b e = sym (node_row a) ∙ (ap node e ∙ node_row b)

-- Acts

abbrev pub acquired_node : Op → ℕ → ℕ → Node
acquired_node o t n = cond (o is take) (semaphore n) (cond (o is look) (flag n) (cond (o is join) (acted n) (due t)))

abbrev pub released_node : Op → ℕ → ℕ → Node
released_node o t n = cond (o is give) (semaphore n) (cond (o is set) (flag n) (cond (o is start) (due n) (due t)))

-- the node whose row an act reads: for a join that of the task's next act, if the task has acted, and the act's own if not
abbrev pub read_node : Op → ℕ → ℕ → Bool → Node
read_node o t n joins = cond (o is take) (semaphore n) (cond (o is look) (flag n) (cond ((o is join) && joins) (due n) (due t)))

pub read_row : (o : Op) (t n : ℕ) (joins : Bool) → acquired_row (kind o) t n (o is join && joins) ≡ row (read_node o t n joins)
read_row o t n joins = by_role (role o)
  where
    of : (x : Bool) → cond x n t ≡ row (cond x (due n) (due t))
    of true = refl
    of false = refl

    by_role : {o : Op} → Role o → acquired_row (kind o) t n (o is join && joins) ≡ row (read_node o t n joins)
    by_role a_take = refl
    by_role a_give = refl
    by_role a_look = refl
    by_role a_set = refl
    by_role a_start = refl
    by_role a_join = of joins
    by_role (plain x) = rw (x.not_take, x.not_look, x.not_join)

pub released_row_lem : (o : Op) (t n : ℕ) → released_row (kind o) t n ≡ row (released_node o t n)
released_row_lem o t n = by_role (role o)
  where
    by_role : {o : Op} → Role o → released_row (kind o) t n ≡ row (released_node o t n)
    by_role a_take = refl
    by_role a_give = refl
    by_role a_look = refl
    by_role a_set = refl
    by_role a_start = refl
    by_role a_join = refl
    by_role (plain x) = rw (x.not_give, x.not_set, x.not_start)

pub read_in : (o : Op) {t n : ℕ} (joins : Bool) → t < tasks → n < size_of (series o) → InRange (read_node o t n joins)
read_in o {t} {n} joins h l = by_role (role o) joins l
  where
    by_role : {o : Op} → Role o → (joins : Bool) → n < size_of (series o) → InRange (read_node o t n joins)
    by_role a_take joins l = semaphore_in l
    by_role a_give joins l = due_in h
    by_role a_look joins l = flag_in l
    by_role a_set joins l = due_in h
    by_role a_start joins l = due_in h
    by_role a_join true l = due_in l
    by_role a_join false l = due_in h
    by_role (plain x) joins l = rw (x.not_take, x.not_look, x.not_join) (due_in h)

pub released_in : (o : Op) {t n : ℕ} → t < tasks → n < size_of (series o) → InRange (released_node o t n)
released_in o {t} {n} h l = by_role (role o) l
  where
    by_role : {o : Op} → Role o → n < size_of (series o) → InRange (released_node o t n)
    by_role a_take l = due_in h
    by_role a_give l = semaphore_in l
    by_role a_look l = due_in h
    by_role a_set l = flag_in l
    by_role a_start l = due_in l
    by_role a_join l = due_in h
    by_role (plain x) l = rw (x.not_give, x.not_set, x.not_start) (due_in h)

pub released_releases : (o : Op) (t n : ℕ) → Releases (act o t n) (released_node o t n)
released_releases o t n = by_role (role o)
  where
    by_role : {o : Op} → Role o → Releases (act o t n) (released_node o t n)
    by_role a_take = own_next
    by_role a_give = by_give
    by_role a_look = own_next
    by_role a_set = by_set
    by_role a_start = by_start
    by_role a_join = own_next
    by_role (plain x) = rw (x.not_give, x.not_set, x.not_start) own_next

pub acquires_cases : {o : Op} {t n : ℕ} {p : Node} → Acquires p (act o t n) → (p ≡ due t) ⊎ (p ≡ acquired_node o t n)
acquires_cases own = inl refl
acquires_cases by_take = inr refl
acquires_cases by_look = inr refl
acquires_cases by_join = inr refl

-- what the row that an act reads tells of: a node that the act hears, or for a join the next act of a task that has acted
pub read_acquires : (o : Op) (t n : ℕ) (joins : Bool) → Acquires (read_node o t n joins) (act o t n) ⊎ (Acquires (acted n) (act o t n) × (read_node o t n joins ≡ due n) × (joins ≡ true))
read_acquires o t n joins = by_role (role o) joins
  where
    by_role : {o : Op} → Role o → (joins : Bool) → Acquires (read_node o t n joins) (act o t n) ⊎ (Acquires (acted n) (act o t n) × (read_node o t n joins ≡ due n) × (joins ≡ true))
    by_role a_take joins = inl by_take
    by_role a_give joins = inl own
    by_role a_look joins = inl by_look
    by_role a_set joins = inl own
    by_role a_start joins = inl own
    by_role a_join true = inr (by_join, refl, refl)
    by_role a_join false = inl own
    by_role (plain x) joins = inl (rw (x.not_take, x.not_look, x.not_join) own)

pub acquired_read : (o : Op) (t n : ℕ) (joins : Bool) →
    (acquired_node o t n ≡ read_node o t n joins) ⊎ (Acquires (acted n) (act o t n) × (acquired_node o t n ≡ acted n) × (read_node o t n true ≡ due n))
acquired_read o t n joins = by_role (role o)
  where
    by_role : {o : Op} → Role o → (acquired_node o t n ≡ read_node o t n joins) ⊎ (Acquires (acted n) (act o t n) × (acquired_node o t n ≡ acted n) × (read_node o t n true ≡ due n))
    by_role a_take = inl refl
    by_role a_give = inl refl
    by_role a_look = inl refl
    by_role a_set = inl refl
    by_role a_start = inl refl
    by_role a_join = inr (by_join, refl, refl)
    by_role (plain x) = inl (rw (x.not_take, x.not_look, x.not_join))

-- an act that is plain acquires its own task's next act alone
pub plain_acquired : {o : Op} → Plain o → (t n : ℕ) → acquired_node o t n ≡ due t
plain_acquired x t n = rw (x.not_take, x.not_look, x.not_join)

pub joined_in : {o : Op} {t n m : ℕ} → Acquires (acted m) (act o t n) → n < size_of (series o) → n < tasks
joined_in by_join l = l

pub releases_cases : {o : Op} {t n : ℕ} {p : Node} → Releases (act o t n) p → (p ≡ due t) ⊎ ((p ≡ acted t) ⊎ (p ≡ released_node o t n))
releases_cases own_next = inl refl
releases_cases own_acted = inr (inl refl)
releases_cases by_give = inr (inr refl)
releases_cases by_set = inr (inr refl)
releases_cases by_start = inr (inr refl)

-- a row of an object that an act releases to is that of the object it names
pub released_object : (o : Op) {t n : ℕ} → t < tasks → n < size_of (series o) → tasks ≤ row (released_node o t n) → Object (released_node o t n)
released_object o {t} {n} h l k = by_role (role o) l k
  where
    by_role : {o : Op} → Role o → n < size_of (series o) → tasks ≤ row (released_node o t n) → Object (released_node o t n)
    by_role a_take l k = absurd (omega arith)
    by_role a_give l k = a_semaphore l
    by_role a_look l k = absurd (omega arith)
    by_role a_set l k = a_flag l
    by_role a_start l k = absurd (omega arith)
    by_role a_join l k = absurd (omega arith)
    by_role {o} (plain x) l k = absurd (not_object (rw (x.not_give, x.not_set, x.not_start) at k))
      where
        not_object : tasks ≤ t → ⊥
        not_object k = omega arith
