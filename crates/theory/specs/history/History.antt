-- The kept accesses, by the kind that asks: for each kind of access, variable and task the record number of the task's latest access to the
-- variable that clashes with one of that kind, which is "its latest conflicting earlier access"; 0 where there is none.
use Rattle.std.specs.Prelude.{ℕ, ◌+◌, ◌*◌, Bool, false, cond, List, map, eqb, get_or, set, length}
use Rattle.theory.specs.basics.Turns.{turns}
use Rattle.theory.specs.order.Limits.{tasks, variables}
use Rattle.theory.specs.order.Recording.{Op, read, fresh, kind, about, access_number, op_of, Kind, of_op, of_mark, numbered_kind}
use Rattle.theory.specs.order.Path.{conflict_rows, clashes}

-- the kinds of access by their numbers, in the order of the table of conflicts
abbrev pub askers : List Op
askers = map (λ x. x.access) conflict_rows

abbrev pub asker : ℕ → Op
asker a = get_or askers a read

-- the number of a kind of access among them
abbrev pub ask_at : ℕ → ℕ
ask_at k = access_number (about (op_of k)).access

-- where it is kept what an access of the kind that has number a, to variable v, asks of task u
abbrev pub slot : ℕ → ℕ → ℕ → ℕ
slot a v u = (a * variables + v) * tasks + u

abbrev pub slots : ℕ
slots = length askers * variables * tasks

abbrev pub last_of : List ℕ → ℕ → ℕ
last_of last s = get_or last s 0

-- task u's latest access to v that conflicts with one of kind k, by its slot and its record number
abbrev pub latest_slot : ℕ → ℕ → ℕ → ℕ
latest_slot k v u = slot (ask_at k) v u

abbrev pub latest_number : List ℕ → ℕ → ℕ → ℕ → ℕ
latest_number last k v u = last_of last (latest_slot k v u)

-- what a record of a kind says clashes with an access of op p
abbrev pub kind_clashes : Kind → Op → Bool
kind_clashes (of_op o) p = clashes o p
kind_clashes of_mark p = false

-- what a record of kind k says is kept under the kind of access that has number a: an access is, under each that it clashes with
abbrev pub kept_for : ℕ → ℕ → Bool
kept_for k a = kind_clashes (numbered_kind k) (asker a)

-- f at each slot that an access of kind k to v by task u is kept in. What is no access is kept nowhere
unfoldable pub under_each : {A : Type 0} → (ℕ → A → A) → ℕ → ℕ → ℕ → A → A
under_each f k v u b = turns (length askers) (λ a b. cond (kept_for k a) (f (slot a v u) b) b) b

-- the history with an access kept; what is no access is kept nowhere
abbrev pub with_access : ℕ → ℕ → ℕ → ℕ → List ℕ → List ℕ
with_access k task on number last = under_each (λ s l. set l s number) k on task last

-- the history without the accesses to variable v: of every task, for the kind that has number a, and for every kind
unfoldable pub emptied_under : ℕ → ℕ → List ℕ → List ℕ
emptied_under v a last = turns tasks (λ u l. set l (slot a v u) 0) last

unfoldable pub emptied : ℕ → List ℕ → List ℕ
emptied v last = turns (length askers) (emptied_under v) last

-- the history after an accepted record: a fresh empties it for its variable, and an access is kept
abbrev pub last_after : ℕ → ℕ → ℕ → ℕ → List ℕ → List ℕ
last_after k task on number last = cond (eqb k (kind fresh)) (emptied on last) (with_access k task on number last)
