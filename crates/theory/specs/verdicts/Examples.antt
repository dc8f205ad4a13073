-- The short recordings K1 to K12 of document 01, and some beside them, as one table of recordings and the answers to their accesses.
-- proofs/verdicts/Examples.antt proves it, by computing it.
use Rattle.std.specs.Prelude.{ℕ, suc, ◌≡◌, List, [], ◌∷◌, T}
use Rattle.theory.specs.order.Recording.{Op, read, write, take, give, look, set, start, join, fresh, miss, bump, owned, Event, act, lost, is_access}
use Rattle.theory.specs.verdicts.Verdict.{Verdict, Race, Clear, Doubt, With}
use Rattle.theory.specs.verdicts.Demands.{Firm}
use Rattle.theory.specs.verdicts.Search.{Finding}

-- the right answer to the access at place k of a recording: its number, the verdict of demand 3, and the partner
pub record Right (es : List Event) (k : ℕ) (a : Finding) : Type 0 where
  pub number : a.number ≡ suc k
  pub firm : Firm es k a.verdict
  pub partner : With es k a.verdict a.partner

-- `RightFindings es k rest as`: the events `rest` stand from place k of the recording on, and `as` has, in their order, the right answer to
-- each access among them and nothing else
pub data RightFindings (es : List Event) : ℕ → List Event → List Finding → Type 0 where
  nothing_left : {k : ℕ} → RightFindings es k [] []
  to_access : {o : Op} {k t n : ℕ} {rest : List Event} {a : Finding} {more : List Finding} → T (is_access o) → Right es k a →
      RightFindings es (suc k) rest more → RightFindings es k (act o t n ∷ rest) (a ∷ more)
  to_other : {o : Op} {k t n : ℕ} {rest : List Event} {more : List Finding} → ¬ T (is_access o) → RightFindings es (suc k) rest more →
      RightFindings es k (act o t n ∷ rest) more
  to_mark : {k mask : ℕ} {rest : List Event} {more : List Finding} → RightFindings es (suc k) rest more → RightFindings es k (lost mask ∷ rest) more

-- a recording, and the answers to its accesses
pub record Example : Type 0 where
  pub events : List Event
  pub answered : List Finding

-- each recording of the list has just the answers that stand with it
pub data AllRight : List Example → Type 0 where
  no_rows : AllRight []
  and_row : {x : Example} {xs : List Example} → RightFindings x.events 0 x.events x.answered → AllRight xs → AllRight (x ∷ xs)

abbrev pub ◌gives◌ : List Event → List Finding → Example
es gives answered = record { events = es; answered = answered }

-- the access of record n has the verdict v, and record p for its partner
infix 90 ◌∶◌with◌
abbrev pub ◌∶◌with◌ : ℕ → Verdict → ℕ → Finding
n ∶ v with p = record { number = n; verdict = v; partner = p }

-- the writes and reads of variable 5 by task 0 and task 1
abbrev pub w0 : Event
w0 = act write 0 5

abbrev pub w1 : Event
w1 = act write 1 5

abbrev pub r0 : Event
r0 = act read 0 5

abbrev pub r1 : Event
r1 = act read 1 5

-- their bumps of it
abbrev pub b0 : Event
b0 = act bump 0 5

abbrev pub b1 : Event
b1 = act bump 1 5

-- the kernel is changed, by task 0
abbrev pub own : Event
own = act owned 0 0

infix 10 ◌gives◌
abbrev pub table : List Example
table =
    -- K1
    ([] gives [])
    -- K2
    ∷ (act start 0 1 ∷ w0 ∷ r1 ∷ [] gives (2 ∶ Clear with 0) ∷ (3 ∶ Race with 2) ∷ [])
    -- K3
    ∷ (w0 ∷ act start 0 1 ∷ r1 ∷ [] gives (1 ∶ Clear with 0) ∷ (3 ∶ Clear with 0) ∷ [])
    -- K4
    ∷ (act start 0 1 ∷ w1 ∷ act join 0 1 ∷ w0 ∷ [] gives (2 ∶ Clear with 0) ∷ (4 ∶ Clear with 0) ∷ [])
    -- K5
    ∷ (act start 0 1 ∷ r0 ∷ r1 ∷ [] gives (2 ∶ Clear with 0) ∷ (3 ∶ Clear with 0) ∷ [])
    -- K6
    ∷ (act start 0 1 ∷ w0 ∷ act look 0 3 ∷ act set 1 3 ∷ w1 ∷ [] gives (2 ∶ Clear with 0) ∷ (5 ∶ Race with 2) ∷ [])
    -- K7
    ∷ (act start 0 1 ∷ act start 0 2 ∷ w1 ∷ act give 1 4 ∷ act give 2 4 ∷ act take 0 4 ∷ r0 ∷ [] gives (3 ∶ Clear with 0) ∷ (7 ∶ Clear with 0) ∷ [])
    -- K8
    ∷ (act start 0 1 ∷ w0 ∷ w1 ∷ lost 3 ∷ [] gives (2 ∶ Clear with 0) ∷ (3 ∶ Race with 2) ∷ [])
    -- K9
    ∷ (act start 0 1 ∷ w0 ∷ lost 3 ∷ w1 ∷ [] gives (2 ∶ Clear with 0) ∷ (4 ∶ Doubt with 2) ∷ [])
    -- K10
    ∷ (act start 0 1 ∷ w0 ∷ lost 2 ∷ w1 ∷ [] gives (2 ∶ Clear with 0) ∷ (4 ∶ Race with 2) ∷ [])
    -- K11
    ∷ (act start 0 1 ∷ w0 ∷ lost 1 ∷ w1 ∷ [] gives (2 ∶ Clear with 0) ∷ (4 ∶ Race with 2) ∷ [])
    -- K11, with a take of 9 by task 1 after the mark
    ∷ (act start 0 1 ∷ w0 ∷ lost 1 ∷ act take 1 9 ∷ w1 ∷ [] gives (2 ∶ Clear with 0) ∷ (5 ∶ Doubt with 2) ∷ [])
    -- K12
    ∷ (act start 0 1 ∷ w0 ∷ lost 1 ∷ lost 2 ∷ w1 ∷ [] gives (2 ∶ Clear with 0) ∷ (5 ∶ Doubt with 2) ∷ [])
    -- K12, the marks the other way round
    ∷ (act start 0 1 ∷ w0 ∷ lost 2 ∷ lost 1 ∷ w1 ∷ [] gives (2 ∶ Clear with 0) ∷ (5 ∶ Race with 2) ∷ [])
    -- a task that is started and joined and never acts carries nothing
    ∷ (act start 0 2 ∷ w0 ∷ act start 0 1 ∷ act join 2 1 ∷ act read 2 5 ∷ [] gives (2 ∶ Clear with 0) ∷ (5 ∶ Race with 2) ∷ [])
    -- the same, with a mark that names it
    ∷ (act start 0 2 ∷ w0 ∷ act start 0 1 ∷ lost 2 ∷ act join 2 1 ∷ act read 2 5 ∷ [] gives (2 ∶ Clear with 0) ∷ (6 ∶ Doubt with 2) ∷ [])
    -- a mark's order goes to the lower task too: it takes the second round
    ∷ (act start 0 1 ∷ w1 ∷ lost 3 ∷ w0 ∷ [] gives (2 ∶ Clear with 0) ∷ (4 ∶ Doubt with 2) ∷ [])
    -- a flag passes order on, and only to later looks
    ∷ (act start 0 1 ∷ w0 ∷ act set 0 3 ∷ act look 1 3 ∷ w1 ∷ [] gives (2 ∶ Clear with 0) ∷ (5 ∶ Clear with 0) ∷ [])
    -- an older access that is unordered is not forgotten for a later one
    ∷ (act start 0 1 ∷ act start 0 2 ∷ w1 ∷ act write 2 5 ∷ act give 2 4 ∷ act take 0 4 ∷ w0 ∷ [] gives (3 ∶ Clear with 0) ∷ (4 ∶ Race with 3) ∷ (7 ∶ Race with 3) ∷ [])
    -- the lowest task's latest access is the partner, and not the earliest access
    ∷ (act start 0 1 ∷ act start 0 2 ∷ act write 2 5 ∷ w1 ∷ w0 ∷ [] gives (3 ∶ Clear with 0) ∷ (4 ∶ Race with 3) ∷ (5 ∶ Race with 4) ∷ [])
    -- the latest of the accesses that conflict: a read does not conflict with a read
    ∷ (act start 0 1 ∷ w1 ∷ r1 ∷ r0 ∷ w0 ∷ [] gives (2 ∶ Clear with 0) ∷ (3 ∶ Clear with 0) ∷ (4 ∶ Race with 2) ∷ (5 ∶ Race with 3) ∷ [])
    -- a mark that names all tasks
    ∷ (act start 0 1 ∷ act start 0 2 ∷ act start 0 3 ∷ act start 0 4 ∷ act start 0 5 ∷ act start 0 6 ∷ act start 0 7 ∷ act start 0 8 ∷ act start 0 9 ∷ act start 0 10 ∷ act start 0 11 ∷ act start 0 12 ∷ act start 0 13 ∷ act start 0 14 ∷ act start 0 15 ∷ w0 ∷ lost 65535 ∷ act write 15 5 ∷ [] gives (16 ∶ Clear with 0) ∷ (18 ∶ Doubt with 16) ∷ [])
    -- F-1: a fresh between two unordered writes: the old table's accesses do not count
    ∷ (act start 0 1 ∷ w0 ∷ act fresh 0 5 ∷ w1 ∷ [] gives (2 ∶ Clear with 0) ∷ (4 ∶ Clear with 0) ∷ [])
    -- before both it changes nothing
    ∷ (act start 0 1 ∷ act fresh 0 5 ∷ w0 ∷ w1 ∷ [] gives (3 ∶ Clear with 0) ∷ (4 ∶ Race with 3) ∷ [])
    -- nor of another variable
    ∷ (act start 0 1 ∷ w0 ∷ act fresh 0 6 ∷ w1 ∷ [] gives (2 ∶ Clear with 0) ∷ (4 ∶ Race with 2) ∷ [])
    -- whoever acts, and whether ordered or not
    ∷ (act start 0 1 ∷ act start 0 2 ∷ w0 ∷ act fresh 2 5 ∷ w1 ∷ [] gives (3 ∶ Clear with 0) ∷ (5 ∶ Clear with 0) ∷ [])
    -- between a write and a mark: the same in each completion
    ∷ (act start 0 1 ∷ w0 ∷ act fresh 1 5 ∷ lost 3 ∷ w1 ∷ [] gives (2 ∶ Clear with 0) ∷ (5 ∶ Clear with 0) ∷ [])
    -- twice; and accesses since the last one count
    ∷ (act start 0 1 ∷ w0 ∷ act fresh 0 5 ∷ w1 ∷ act fresh 1 5 ∷ w0 ∷ r1 ∷ [] gives (2 ∶ Clear with 0) ∷ (4 ∶ Clear with 0) ∷ (6 ∶ Clear with 0) ∷ (7 ∶ Race with 6) ∷ [])
    -- the partner is the newer of two accesses, where without the fresh it would be the older
    ∷ (act start 0 1 ∷ act start 0 2 ∷ w1 ∷ act fresh 0 5 ∷ act write 2 5 ∷ w0 ∷ [] gives (3 ∶ Clear with 0) ∷ (5 ∶ Clear with 0) ∷ (6 ∶ Race with 5) ∷ [])
    -- it is an act of its task: a join acquires it
    ∷ (act start 0 2 ∷ w0 ∷ act start 0 1 ∷ act fresh 1 6 ∷ act join 2 1 ∷ act read 2 5 ∷ [] gives (2 ∶ Clear with 0) ∷ (6 ∶ Clear with 0) ∷ [])
    -- and makes no step of its own kind: a later fresh or read of the variable is not ordered by it
    ∷ (act start 0 1 ∷ act write 0 6 ∷ act fresh 0 5 ∷ act fresh 1 5 ∷ r1 ∷ act write 1 6 ∷ [] gives (2 ∶ Clear with 0) ∷ (5 ∶ Clear with 0) ∷ (6 ∶ Race with 2) ∷ [])
    -- F-3: a wait that ran out acquires nothing
    ∷ (act start 0 1 ∷ w0 ∷ act give 0 4 ∷ act miss 1 4 ∷ r1 ∷ [] gives (2 ∶ Clear with 0) ∷ (5 ∶ Race with 2) ∷ [])
    -- and leaves the semaphore as it was: a take after it acquires what was given
    ∷ (act start 0 1 ∷ w0 ∷ act give 0 4 ∷ act miss 1 4 ∷ act take 1 4 ∷ r1 ∷ [] gives (2 ∶ Clear with 0) ∷ (6 ∶ Clear with 0) ∷ [])
    -- it releases nothing either
    ∷ (act start 0 1 ∷ w0 ∷ act miss 0 4 ∷ act take 1 4 ∷ w1 ∷ [] gives (2 ∶ Clear with 0) ∷ (5 ∶ Race with 2) ∷ [])
    -- it is an act of its task: a join acquires it
    ∷ (act start 0 2 ∷ w0 ∷ act start 0 1 ∷ act miss 1 4 ∷ act join 2 1 ∷ act read 2 5 ∷ [] gives (2 ∶ Clear with 0) ∷ (6 ∶ Clear with 0) ∷ [])
    -- a mark whose named task may have lost a miss and nothing else
    ∷ (act start 0 2 ∷ act give 0 4 ∷ w0 ∷ act start 0 1 ∷ lost 2 ∷ act join 2 1 ∷ act read 2 5 ∷ [] gives (3 ∶ Clear with 0) ∷ (7 ∶ Doubt with 3) ∷ [])
    -- F-5: two bumps never conflict
    ∷ (act start 0 1 ∷ b0 ∷ b1 ∷ [] gives (2 ∶ Clear with 0) ∷ (3 ∶ Clear with 0) ∷ [])
    -- a bump and a write, a bump and a read, in either order, unordered
    ∷ (act start 0 1 ∷ w0 ∷ b1 ∷ [] gives (2 ∶ Clear with 0) ∷ (3 ∶ Race with 2) ∷ [])
    ∷ (act start 0 1 ∷ b0 ∷ w1 ∷ [] gives (2 ∶ Clear with 0) ∷ (3 ∶ Race with 2) ∷ [])
    ∷ (act start 0 1 ∷ b0 ∷ r1 ∷ [] gives (2 ∶ Clear with 0) ∷ (3 ∶ Race with 2) ∷ [])
    ∷ (act start 0 1 ∷ r0 ∷ b1 ∷ [] gives (2 ∶ Clear with 0) ∷ (3 ∶ Race with 2) ∷ [])
    -- and handed over
    ∷ (act start 0 1 ∷ w0 ∷ act give 0 4 ∷ act take 1 4 ∷ b1 ∷ [] gives (2 ∶ Clear with 0) ∷ (5 ∶ Clear with 0) ∷ [])
    ∷ (act start 0 1 ∷ b0 ∷ act give 0 4 ∷ act take 1 4 ∷ w1 ∷ [] gives (2 ∶ Clear with 0) ∷ (5 ∶ Clear with 0) ∷ [])
    ∷ (act start 0 1 ∷ b0 ∷ act give 0 4 ∷ act take 1 4 ∷ r1 ∷ [] gives (2 ∶ Clear with 0) ∷ (5 ∶ Clear with 0) ∷ [])
    ∷ (act start 0 1 ∷ r0 ∷ act give 0 4 ∷ act take 1 4 ∷ b1 ∷ [] gives (2 ∶ Clear with 0) ∷ (5 ∶ Clear with 0) ∷ [])
    -- a task's latest access is a bump and its older one a read: against a bump the partner is the read
    ∷ (act start 0 1 ∷ r0 ∷ b0 ∷ b1 ∷ [] gives (2 ∶ Clear with 0) ∷ (3 ∶ Clear with 0) ∷ (4 ∶ Race with 2) ∷ [])
    -- against a write the latest of its three kinds, whichever it is
    ∷ (act start 0 1 ∷ r0 ∷ w0 ∷ b0 ∷ w1 ∷ [] gives (2 ∶ Clear with 0) ∷ (3 ∶ Clear with 0) ∷ (4 ∶ Clear with 0) ∷ (5 ∶ Race with 4) ∷ [])
    ∷ (act start 0 1 ∷ b0 ∷ w0 ∷ r0 ∷ w1 ∷ [] gives (2 ∶ Clear with 0) ∷ (3 ∶ Clear with 0) ∷ (4 ∶ Clear with 0) ∷ (5 ∶ Race with 4) ∷ [])
    ∷ (act start 0 1 ∷ b0 ∷ r0 ∷ w0 ∷ w1 ∷ [] gives (2 ∶ Clear with 0) ∷ (3 ∶ Clear with 0) ∷ (4 ∶ Clear with 0) ∷ (5 ∶ Race with 4) ∷ [])
    -- a bump across a mark
    ∷ (act start 0 1 ∷ w0 ∷ lost 3 ∷ b1 ∷ [] gives (2 ∶ Clear with 0) ∷ (4 ∶ Doubt with 2) ∷ [])
    -- and after a fresh; a bump before it does not count either
    ∷ (act start 0 1 ∷ w0 ∷ act fresh 0 5 ∷ b1 ∷ [] gives (2 ∶ Clear with 0) ∷ (4 ∶ Clear with 0) ∷ [])
    ∷ (act start 0 1 ∷ b0 ∷ act fresh 0 5 ∷ w1 ∷ [] gives (2 ∶ Clear with 0) ∷ (4 ∶ Clear with 0) ∷ [])
    -- F-12: under the profile a take acquires what its holder before it gave, and what was given of another semaphore it does not
    ∷ (own ∷ act start 0 1 ∷ act take 0 4 ∷ w0 ∷ act give 0 4 ∷ act take 1 4 ∷ w1 ∷ [] gives (4 ∶ Clear with 0) ∷ (7 ∶ Clear with 0) ∷ [])
    ∷ (own ∷ act start 0 1 ∷ act take 0 4 ∷ w0 ∷ act give 0 4 ∷ act take 1 6 ∷ w1 ∷ [] gives (4 ∶ Clear with 0) ∷ (7 ∶ Race with 4) ∷ [])
    -- F-14: "Order gained before it remains": a give before it reaches a take after it, a set a look, and what was acquired before it is kept
    ∷ (act start 0 1 ∷ w0 ∷ act give 0 4 ∷ own ∷ act take 1 4 ∷ r1 ∷ [] gives (2 ∶ Clear with 0) ∷ (6 ∶ Clear with 0) ∷ [])
    ∷ (act start 0 1 ∷ w0 ∷ act set 0 3 ∷ own ∷ act look 1 3 ∷ r1 ∷ [] gives (2 ∶ Clear with 0) ∷ (6 ∶ Clear with 0) ∷ [])
    ∷ (act start 0 1 ∷ w0 ∷ act give 0 4 ∷ act take 1 4 ∷ own ∷ r1 ∷ [] gives (2 ∶ Clear with 0) ∷ (6 ∶ Clear with 0) ∷ [])
    -- two gives before it: the later one is by the task that takes after it, which has to acquire the other's
    ∷ (act start 0 1 ∷ w0 ∷ act give 0 4 ∷ act give 1 4 ∷ own ∷ act take 1 4 ∷ r1 ∷ [] gives (2 ∶ Clear with 0) ∷ (7 ∶ Clear with 0) ∷ [])
    -- it makes no step: nothing is in order by it, whoever's act it is
    ∷ (act start 0 1 ∷ w0 ∷ own ∷ w1 ∷ [] gives (2 ∶ Clear with 0) ∷ (4 ∶ Race with 2) ∷ [])
    ∷ (act start 0 1 ∷ w0 ∷ act owned 1 0 ∷ w1 ∷ [] gives (2 ∶ Clear with 0) ∷ (4 ∶ Race with 2) ∷ [])
    -- it is an act of its task: a join acquires it
    ∷ (act start 0 2 ∷ w0 ∷ act start 0 1 ∷ act owned 1 0 ∷ act join 2 1 ∷ act read 2 5 ∷ [] gives (2 ∶ Clear with 0) ∷ (6 ∶ Clear with 0) ∷ [])
    -- "Earlier loss marks stay, so Doubt can still be given after the change"
    ∷ (act start 0 1 ∷ w0 ∷ lost 3 ∷ own ∷ w1 ∷ [] gives (2 ∶ Clear with 0) ∷ (5 ∶ Doubt with 2) ∷ [])
    -- and before it: a Doubt on either side
    ∷ (act start 0 1 ∷ w0 ∷ lost 3 ∷ r1 ∷ own ∷ w1 ∷ [] gives (2 ∶ Clear with 0) ∷ (4 ∶ Doubt with 2) ∷ (6 ∶ Doubt with 2) ∷ [])
    -- a Race on either side, also with a mark between which names one of the two tasks
    ∷ (act start 0 1 ∷ w0 ∷ r1 ∷ own ∷ w1 ∷ [] gives (2 ∶ Clear with 0) ∷ (3 ∶ Race with 2) ∷ (5 ∶ Race with 2) ∷ [])
    ∷ (act start 0 1 ∷ w0 ∷ r1 ∷ lost 2 ∷ own ∷ w1 ∷ [] gives (2 ∶ Clear with 0) ∷ (3 ∶ Race with 2) ∷ (6 ∶ Race with 2) ∷ [])
    -- a Race before it, and a Doubt after it
    ∷ (act start 0 1 ∷ w0 ∷ w1 ∷ lost 3 ∷ own ∷ w0 ∷ [] gives (2 ∶ Clear with 0) ∷ (3 ∶ Race with 2) ∷ (6 ∶ Doubt with 3) ∷ [])
    -- a give that was lost before it may reach a take after it, and is not forgotten where that task gives and takes again
    ∷ (act start 0 1 ∷ w0 ∷ lost 1 ∷ own ∷ act take 1 9 ∷ w1 ∷ [] gives (2 ∶ Clear with 0) ∷ (6 ∶ Doubt with 2) ∷ [])
    ∷ (act start 0 1 ∷ w0 ∷ lost 1 ∷ own ∷ act take 1 9 ∷ act give 1 9 ∷ act take 1 9 ∷ w1 ∷ [] gives (2 ∶ Clear with 0) ∷ (8 ∶ Doubt with 2) ∷ [])
    -- where the semaphore is handed over after it, the marks before it no longer matter
    ∷ (act start 0 1 ∷ w0 ∷ lost 3 ∷ own ∷ act take 0 4 ∷ act give 0 4 ∷ act take 1 4 ∷ w1 ∷ [] gives (2 ∶ Clear with 0) ∷ (8 ∶ Clear with 0) ∷ [])
    ∷ []
