-- What the lazy reckoning computes, in one pass over the list. It reads the access that ends the list first, and follows order from the accesses
-- that this one asks about, and from those that a write of the acting task would ask about, in words that have a bit for each of them.
use Rattle.std.specs.Prelude.{ℕ, zero, suc, ◌+◌, ◌*◌, ◌-◌, ◌%◌, ◌^◌, Bool, cond, not, ◌&&◌, ◌||◌, List, [], ◌∷◌, ltb, eqb, get_or, set, replicate, Result, Ok, Err}
use Rattle.std.specs.Int.Bits.{bit_and, bit_or}
use Rattle.theory.specs.declared.record.Record.{Record}
use Rattle.requests.specs.declared.walk.Walk.{Walk}
use Rattle.requests.specs.declared.walk.Pairs.{Pairs}
use Rattle.theory.specs.declared.refusal.Refusal.{Refusal}
use Rattle.theory.specs.acceptance.Refusals.{row_number, numbered_row}
use Rattle.theory.specs.basics.Turns.{turns, any_below}
use Rattle.theory.specs.order.Limits.{tasks, variables}
use Rattle.theory.specs.order.Recording.{read, write, take, give, look, set as sets, start, join, fresh, kind, loss_mark, accesses, numbered_kind}
use Rattle.theory.specs.fillings.Completion.{bit}
use Rattle.theory.specs.history.History.{asker, ask_at, kind_clashes}
use Rattle.theory.specs.tables.Rows.{hub, task_row, acquired_row, released_row}
use Rattle.theory.specs.tables.Reckonings.{word_bits, with_bit, without_bit}
use Rattle.requests.specs.following.Following.{Follower, answer_by}

-- The columns: what the ending access asks of each task, and beside it what a write asks

abbrev pub by_end : ℕ
by_end = 0

abbrev pub by_write : ℕ
by_write = 1

abbrev pub column : ℕ → ℕ → ℕ
column side u = side * tasks + u

-- the number of the kind of access that asks on a side; q is the ending access
abbrev pub asker_on : Record → ℕ → ℕ
asker_on q side = cond (eqb side by_end) (ask_at q.kind) (ask_at (kind write))

-- a kind that a walk counts: "the takes, gives, looks, sets, starts and joins"
abbrev pub walkable : ℕ → Bool
walkable k = eqb k (kind take) || eqb k (kind give) || eqb k (kind look) || eqb k (kind sets) || eqb k (kind start) || eqb k (kind join)

-- What is kept on the way: for each node the columns whose order has come to it; for each column the walked records before its access, and once
-- order has come to the acting task those from the access up to there; and single words
pub record Lazy : Type 0 where
  pub nodes : List ℕ
  pub counts : List ℕ
  pub walk : Walk

abbrev pub walk_of : ℕ → ℕ → ℕ → ℕ → Walk
walk_of pairs acted known walked = record { pairs = pairs; acted = acted; known = known; walked = walked }

abbrev pub lazy_of : List ℕ → List ℕ → Walk → Lazy
lazy_of nodes counts walk = record { nodes = nodes; counts = counts; walk = walk }

abbrev pub word_at : List ℕ → ℕ → ℕ
word_at nodes r = get_or nodes r 0

-- An access of another task to the variable: its column begins anew, with order at its task's next act alone

unfoldable pub clear_column : ℕ → List ℕ → List ℕ
clear_column c nodes = turns hub (λ r b. set b r (without_bit c (word_at b r))) nodes

abbrev pub add_column : ℕ → ℕ → List ℕ → List ℕ
add_column c r nodes = set nodes r (with_bit c (word_at nodes r))

abbrev pub begin_column : ℕ → ℕ → Lazy → Lazy
begin_column c u s =
    lazy_of (add_column c (task_row u) (clear_column c s.nodes)) (set s.counts c s.walk.walked)
    (walk_of (with_bit c s.walk.pairs) s.walk.acted (without_bit c s.walk.known) s.walk.walked)

unfoldable pub keep_on : Record → ℕ → ℕ → ℕ → Lazy → Lazy
keep_on q k u side s = cond (kind_clashes (numbered_kind k) (asker (asker_on q side))) (begin_column (column side u) u s) s

abbrev pub keep_anew : Record → ℕ → ℕ → Lazy → Lazy
keep_anew q k u s = keep_on q k u by_write (keep_on q k u by_end s)

-- A write of the variable by the acting task: where each of its pairs had a path, no walk is needed for the accesses before it

abbrev pub unordered : ℕ → ℕ → Bool
unordered pairs own = any_below tasks (λ u. bit pairs (column by_write u) && not (bit own (column by_write u)))

abbrev pub shortened : ℕ → Lazy → Lazy
shortened own s =
    lazy_of s.nodes s.counts
    (walk_of s.walk.pairs s.walk.acted (cond (unordered s.walk.pairs own) s.walk.known s.walk.pairs) s.walk.walked)

-- an access to the variable
unfoldable pub accessed : Record → ℕ → ℕ → Lazy → Lazy
accessed q k task s =
    cond (eqb task q.task) (cond (eqb k (kind write)) (shortened (word_at s.nodes (task_row task)) s) s) (keep_anew q k task s)

-- A fresh of the variable: nothing is followed any more

abbrev pub unfollowed : Lazy → Lazy
unfollowed s = lazy_of s.nodes s.counts (walk_of 0 s.walk.acted 0 s.walk.walked)

-- A record that a walk counts

-- order over it, for all columns at once
abbrev pub learned : ℕ → ℕ → List ℕ → List ℕ
learned to from nodes = set nodes to (bit_or (word_at nodes to) (word_at nodes from))

abbrev pub flowed : ℕ → ℕ → ℕ → ℕ → List ℕ → List ℕ
flowed acted k task on nodes =
    learned (released_row k task on) (task_row task) (learned (task_row task) (acquired_row k task on (eqb k (kind join) && bit acted on)) nodes)

-- the counts of the columns whose order has come to the acting task by it: its word was `before` and is `after`
unfoldable pub arrived_now : ℕ → ℕ → ℕ → List ℕ → List ℕ
arrived_now before after walked counts =
    turns word_bits (λ c l. cond (bit after c && not (bit before c)) (set l c (walked - get_or l c 0)) l) counts

-- it is counted, and where nothing is followed that is all
abbrev pub stepped : Record → List ℕ → Lazy → Lazy
stepped q nodes s =
    lazy_of nodes (arrived_now (word_at s.nodes q.task) (word_at nodes q.task) (s.walk.walked + 1) s.counts)
    (walk_of s.walk.pairs s.walk.acted s.walk.known (s.walk.walked + 1))

unfoldable pub walked_over : Record → ℕ → ℕ → ℕ → Lazy → Lazy
walked_over q k task on s = stepped q (cond (eqb s.walk.pairs 0) s.nodes (flowed s.walk.acted k task on s.nodes)) s

-- Any act, and any record

abbrev pub noted : ℕ → Lazy → Lazy
noted task s = lazy_of s.nodes s.counts (walk_of s.walk.pairs (with_bit task s.walk.acted) s.walk.known s.walk.walked)

abbrev pub of_variable : Record → ℕ → ℕ → ℕ → Lazy → Lazy
of_variable q k task on s = cond (eqb on q.on) (cond (eqb k (kind fresh)) (unfollowed s) (accessed q k task s)) s

-- a fresh and an access concern a variable; what else is no record of a walk does nothing but that its task has acted
unfoldable pub acted : Record → ℕ → ℕ → ℕ → Lazy → Lazy
acted q k task on s =
    cond (walkable k) (walked_over q k task on (noted task s)) (cond (accesses k || eqb k (kind fresh)) (of_variable q k task on (noted task s)) (noted task s))

abbrev pub recorded : Record → Record → Lazy → Lazy
recorded q r s = cond (eqb r.kind loss_mark) s (acted q r.kind r.task r.on s)

-- as following a list has it: the control table is not asked
abbrev pub lazy_after : Record → List ℕ → Record → Lazy → Lazy
lazy_after q control r s = recorded q r s

unfoldable pub fresh_lazy : Lazy
fresh_lazy = lazy_of (replicate hub 0) (replicate word_bits 0) (walk_of 0 0 0 0)

-- The answer

abbrev pub pairs_of : ℕ → ℕ → ℕ → Pairs
pairs_of pairs paths walked = record { pairs = pairs; paths = paths; walked = walked }

-- where there is no access to answer for, no pairs: by the number of the refusal, or 0
abbrev pub no_pairs : ℕ → Result Pairs Refusal
no_pairs zero = Ok (pairs_of 0 0 0)
no_pairs (suc n) = Err (numbered_row (suc n))

-- as four numbers, for a host that knows no enum: the refusal's or 0, and those of the pairs
abbrev pub pairs_numbers : Result Pairs Refusal → List ℕ
pairs_numbers (Ok a) = 0 ∷ a.pairs ∷ a.paths ∷ a.walked ∷ []
pairs_numbers (Err row) = row_number row ∷ 0 ∷ 0 ∷ 0 ∷ []

-- what task u's walk counts: nothing where it has no pair or needs none
abbrev pub walk_by : ℕ → Lazy → ℕ → ℕ
walk_by own s u =
    cond (bit s.walk.pairs u && not (bit s.walk.known u)) (cond (bit own u) (get_or s.counts u 0) (s.walk.walked - get_or s.counts u 0)) 0

unfoldable pub walks : ℕ → Lazy → ℕ
walks own s = turns tasks (λ u n. n + walk_by own s u) 0

abbrev pub told : Record → Lazy → Pairs
told q s =
    let own = word_at s.nodes q.task in pairs_of (s.walk.pairs % 2 ^ tasks) (bit_and s.walk.pairs own % 2 ^ tasks) (walks own s)

-- an access in range; where the list ends in anything else, nothing need be followed, and it is done for an access that says nothing
abbrev pub asks_in_range : Record → Bool
asks_in_range q = accesses q.kind && (ltb q.task tasks && ltb q.on variables)

abbrev pub question : Record → Record
question q = cond (asks_in_range q) q (record { kind = kind read; task = 0; on = 0 })

abbrev pub lazy_follower : Follower Lazy (Result Pairs Refusal)
lazy_follower = record { fresh = fresh_lazy; next = λ q. lazy_after (question q); without = no_pairs; told = λ q s. Ok (told q s) }

-- the answer for a list of records
abbrev pub lazily : List Record → Result Pairs Refusal
lazily = answer_by lazy_follower
