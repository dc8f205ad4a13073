-- F-11: each premise is needed. A table of recordings and of two neighbours in each that fail one premise and meet all others: when they are
-- swapped, what some record is told changes, its verdict, its partner task or its acceptance. proofs/swapping/Examples.antt proves it, by computing it.
use Rattle.std.specs.Prelude.{ℕ, ◌≡◌, ◌≢◌, List, [], ◌∷◌, ◌++◌, map}
use Rattle.std.proofs.Math.Option
use Rattle.std.proofs.Math.Option.{Option, none, some}
use Rattle.std.proofs.Math.ListN.{get_elem?}
use Rattle.theory.specs.declared.record.Record.{Record}
use Rattle.theory.specs.order.Recording.{read, write, take, give, look, set, start, join, fresh, miss, owned, Event, act, lost}
use Rattle.theory.specs.verdicts.Verdict.{Race, Clear, Doubt}
use Rattle.theory.specs.verdicts.Search.{Finding}
use Rattle.theory.specs.verdicts.Examples.{◌∶◌with◌, w0, w1, r0, r1, b0, b1}
use Rattle.theory.specs.feeding.Feeding.{answers_from, event_record, verdicts_of}
use Rattle.requests.specs.swapping.Unrelated.{Premise, two_acts, actors_differ, names_no_actor, names_no_same, no_semaphore, no_flag, no_variable, none_owned, Holds, Unrelated, UnrelatedByMiss}
use Rattle.requests.specs.swapping.Swaps.{Swapped, these, later, moved}
use Rattle.requests.specs.swapping.Compared.{Accepted, Said, refused, taken, judged, lines_among}

-- two neighbours in a recording that fail a premise; and a record of it, by its place, which is told one thing, and another when the two are swapped
pub record Related : Type 0 where
  pub premise : Premise
  pub ahead : List Event
  pub one : Event
  pub other : Event
  pub behind : List Event
  pub place : ℕ
  pub was : Said
  pub becomes : Said

-- the recording, and the same with the two swapped
abbrev pub logged : Related → List Event
logged x = x.ahead ++ (x.one ∷ (x.other ∷ x.behind))

abbrev pub exchanged : Related → List Event
exchanged x = x.ahead ++ (x.other ∷ (x.one ∷ x.behind))

-- a swap that asks for nothing
abbrev pub any_swap : (e f : Event) (behind ahead : List Event) → Swapped (λ x y. Unit) (ahead ++ (e ∷ (f ∷ behind))) (ahead ++ (f ∷ (e ∷ behind)))
any_swap e f behind [] = these tt
any_swap e f behind (x ∷ ahead) = later (any_swap e f behind ahead)

-- where the record stands then
abbrev pub new_place : Related → ℕ
new_place x = moved (any_swap x.one x.other x.behind x.ahead) x.place

-- what the record at a place of a recording is told when it is fed
abbrev pub said_at_place : List Record → ℕ → Option Said
said_at_place rs k = Option.map (λ l. l.said) (get_elem? (lines_among rs rs (answers_from [] rs)) k)

abbrev pub told_at : List Event → ℕ → Option Said
told_at es k = said_at_place (map event_record es) k

pub record Changes (x : Related) : Type 0 where
  -- the two meet every other premise
  pub others : (p : Premise) → p ≢ x.premise → Holds p x.one x.other
  -- every record of the recording is accepted
  pub accepted : Accepted (answers_from [] (map event_record (logged x)))
  -- what the record is told as it is, and with the two swapped
  pub before : told_at (logged x) x.place ≡ some x.was
  pub after : told_at (exchanged x) (new_place x) ≡ some x.becomes
  pub differ : x.was ≢ x.becomes

-- every row of a table does
abbrev pub AllChange : List Related → Type 0
AllChange [] = Unit
AllChange (x ∷ xs) = Changes x × AllChange xs

-- so each premise is needed
abbrev pub EachNeeded : Type 0
EachNeeded = (q : Premise) → (x : Related) × (x.premise ≡ q) × Changes x

abbrev pub example_row : Premise → List Event → Event → Event → List Event → ℕ → Said → Said → Related
example_row q ahead e f behind k was becomes =
    record { premise = q; ahead = ahead; one = e; other = f; behind = behind; place = k; was = was; becomes = becomes }

abbrev pub clear : Said
clear = judged Clear none

-- by the partner's task
abbrev pub race : ℕ → Said
race t = judged Race (some t)

abbrev pub doubt : ℕ → Said
doubt t = judged Doubt (some t)

-- the recording up to the two, the two, the rest; the place of the record that is told otherwise, and what
abbrev pub related : List Related
related =
    -- a loss mark, which names only the task that does not act in the other: what was lost may have taken what is given before it, and not what is
    -- given after it
    example_row two_acts (act start 0 1 ∷ w0 ∷ []) (act give 0 4) (lost 2) (w1 ∷ []) 4 (doubt 0) (race 0)
    -- the same task acts: it gives what it has written, or writes once it has given
    ∷ example_row actors_differ (act start 0 1 ∷ []) w0 (act give 0 4) (act take 1 4 ∷ w1 ∷ []) 4 clear (race 0)
    -- one names the task that acts in the other: before its start a task may not act
    ∷ example_row names_no_actor [] (act start 0 1) w1 [] 1 clear (refused 6)
    -- nor once it is joined
    ∷ example_row names_no_actor (act start 0 1 ∷ []) w1 (act join 0 1) [] 1 clear (refused 6)
    -- both name the same task: one that was not started is not joined
    ∷ example_row names_no_same (act start 0 2 ∷ []) (act start 0 1) (act join 2 1) [] 2 taken (refused 9)
    -- a semaphore in common: a take acquires what was given before it
    ∷ example_row no_semaphore (act start 0 1 ∷ w0 ∷ []) (act give 0 4) (act take 1 4) (w1 ∷ []) 4 clear (race 0)
    -- and under the profile it needs a free one
    ∷ example_row no_semaphore (act owned 0 0 ∷ act start 0 1 ∷ act take 0 4 ∷ []) (act give 0 4) (act take 1 4) [] 4 taken (refused 16)
    -- a flag in common: a look acquires what was set before it
    ∷ example_row no_flag (act start 0 1 ∷ w0 ∷ []) (act set 0 3) (act look 1 3) (w1 ∷ []) 4 clear (race 0)
    -- a variable in common: of two writes the later one is a Race
    ∷ example_row no_variable (act start 0 1 ∷ []) w0 w1 [] 1 clear (race 1)
    -- of a read and a write, in either order
    ∷ example_row no_variable (act start 0 1 ∷ []) r0 w1 [] 1 clear (race 1)
    ∷ example_row no_variable (act start 0 1 ∷ []) w0 r1 [] 1 clear (race 1)
    -- of a bump and a read, in either order, and of a bump and a write
    ∷ example_row no_variable (act start 0 1 ∷ []) b0 r1 [] 1 clear (race 1)
    ∷ example_row no_variable (act start 0 1 ∷ []) r0 b1 [] 1 clear (race 1)
    ∷ example_row no_variable (act start 0 1 ∷ []) b0 w1 [] 1 clear (race 1)
    -- a fresh empties the history of what stands before it
    ∷ example_row no_variable (act start 0 1 ∷ []) w0 (act fresh 1 5) (w1 ∷ []) 3 clear (race 0)
    ∷ example_row no_variable (act start 0 1 ∷ []) r0 (act fresh 1 5) (w1 ∷ []) 3 clear (race 0)
    ∷ example_row no_variable (act start 0 1 ∷ []) b0 (act fresh 1 5) (w1 ∷ []) 3 clear (race 0)
    -- an `owned`: who has taken before it holds nothing after it
    ∷ example_row none_owned (act start 0 1 ∷ []) (act owned 0 0) (act take 1 4) (act give 1 4 ∷ []) 3 taken (refused 16)
    -- and who has not taken may give before it
    ∷ example_row none_owned (act start 0 1 ∷ []) (act give 1 4) (act owned 0 0) [] 1 taken (refused 16)
    ∷ []

-- And records that meet every premise, so that they may be swapped wherever they stand side by side

pub record Pair : Type 0 where
  pub one : Event
  pub other : Event

infix 30 ◌beside◌
abbrev pub ◌beside◌ : Event → Event → Pair
e beside f = record { one = e; other = f }

abbrev pub AllUnrelated : List Pair → Type 0
AllUnrelated [] = Unit
AllUnrelated (x ∷ xs) = Unrelated x.one x.other × AllUnrelated xs

abbrev pub unrelated_pairs : List Pair
unrelated_pairs =
    -- two reads and two bumps of one variable
    (r0 beside r1)
    ∷ (b0 beside b1)
    -- two writes of two variables
    ∷ (w0 beside act write 1 6)
    -- a fresh and an access of another variable
    ∷ (act fresh 0 6 beside w1)
    -- a give and a take of two semaphores, two takes, a set and a look of two flags, and a miss
    ∷ (act give 0 4 beside act take 1 5)
    ∷ (act take 1 4 beside act take 2 5)
    ∷ (act set 0 3 beside act look 1 4)
    ∷ (act give 0 4 beside act miss 1 5)
    -- a start and a join of two other tasks
    ∷ (act start 0 2 beside act join 1 3)
    -- the same number in other series: semaphore and flag 3, variable and semaphore 5, task and variable 5
    ∷ (act give 0 3 beside act set 1 3)
    ∷ (w0 beside act take 1 5)
    ∷ (act start 0 5 beside w1)
    -- a variable that has the number of a task that acts
    ∷ (act write 0 1 beside act read 1 0)
    ∷ []

-- and those of which one is a miss, with a semaphore in common

abbrev pub AllMissed : List Pair → Type 0
AllMissed [] = Unit
AllMissed (x ∷ xs) = UnrelatedByMiss x.one x.other × AllMissed xs

abbrev pub missed_pairs : List Pair
missed_pairs =
    (act give 1 3 beside act miss 2 3)
    ∷ (act miss 2 4 beside act take 1 4)
    ∷ []

-- Under the profile (F-12) with semaphore 3 held by task 1, some of these: every record is accepted, in either order

abbrev pub holding : List Event
holding = act owned 0 0 ∷ act start 0 1 ∷ act start 0 2 ∷ act take 1 3 ∷ []

pub record EitherOrder (x : Pair) : Type 0 where
  pub logged : Accepted (answers_from [] (map event_record (holding ++ (x.one ∷ (x.other ∷ [])))))
  pub swapped : Accepted (answers_from [] (map event_record (holding ++ (x.other ∷ (x.one ∷ [])))))

pub record HeldPairs : Type 0 where
  pub two_takes : EitherOrder (act take 1 4 beside act take 2 5)
  pub give_take : EitherOrder (act give 1 3 beside act take 2 4)
  pub give_miss : EitherOrder (act give 1 3 beside act miss 2 3)
  pub miss_take : EitherOrder (act miss 2 4 beside act take 1 4)

-- "Partner record numbers may shift": w0 and the write of variable 6 are unrelated, and the read's partner, w0, has number 2, or 3 once they are swapped

abbrev pub fed_findings : List Event → List Finding
fed_findings es = verdicts_of (answers_from [] (map event_record es))

pub record NumbersShift : Type 0 where
  pub before : fed_findings (act start 0 1 ∷ w0 ∷ act write 1 6 ∷ r1 ∷ []) ≡ (2 ∶ Clear with 0) ∷ (3 ∶ Clear with 0) ∷ (4 ∶ Race with 2) ∷ []
  pub after : fed_findings (act start 0 1 ∷ act write 1 6 ∷ w0 ∷ r1 ∷ []) ≡ (2 ∶ Clear with 0) ∷ (3 ∶ Clear with 0) ∷ (4 ∶ Race with 3) ∷ []
