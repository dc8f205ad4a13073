-- F-13 and F-14: short lists of records, fed from a fresh state, with the number of takes that are skipped in each. proofs/skipping/Examples.antt proves the table,
-- by computing it.
use Rattle.std.specs.Prelude.{ℕ, ◌≡◌, List, [], ◌∷◌, map}
use Rattle.theory.specs.order.Recording.{Event, act, lost, read, write, take, give, set, join, miss, owned}
use Rattle.theory.specs.verdicts.Examples.{own}
use Rattle.theory.specs.acceptance.Table.{recording}
use Rattle.theory.specs.acceptance.Examples.{start1}
use Rattle.theory.specs.feeding.Feeding.{event_record}
use Rattle.theory.specs.skipping.Skipping.{skipped_takes}

-- records as they are fed, and the number of skipped takes among the accepted ones
pub record Skipped : Type 0 where
  pub fed : List Event
  pub skipped : ℕ

infix 90 ◌skip◌
abbrev pub ◌skip◌ : List Event → ℕ → Skipped
es skip n = record { fed = es; skipped = n }

-- each list has as many skipped takes as stand with it
abbrev pub AllSkip : List Skipped → Type 0
AllSkip lists = map (λ (x : Skipped). skipped_takes (recording (map event_record x.fed))) lists ≡ map (λ (x : Skipped). x.skipped) lists

abbrev pub skipped_lists : List Skipped
skipped_lists =
    -- the first take of a semaphore never is: nobody has given it
    (own ∷ act take 0 4 ∷ []) skip 0
    -- "if the last give of that semaphore was by the same task", each time anew
    ∷ (own ∷ act take 0 4 ∷ act give 0 4 ∷ act take 0 4 ∷ []) skip 1
    ∷ (own ∷ act take 0 4 ∷ act give 0 4 ∷ act take 0 4 ∷ act give 0 4 ∷ act take 0 4 ∷ act give 0 4 ∷ []) skip 2
    -- not if another task took and gave it between: its give was the last
    ∷ (own ∷ start1 ∷ act take 0 4 ∷ act give 0 4 ∷ act take 1 4 ∷ act give 1 4 ∷ act take 0 4 ∷ []) skip 0
    -- it is skipped by that other task
    ∷ (own ∷ start1 ∷ act take 0 4 ∷ act give 0 4 ∷ act take 1 4 ∷ act give 1 4 ∷ act take 1 4 ∷ []) skip 1
    -- "also with other semaphores held", and whatever was given and taken of these
    ∷ (own ∷ act take 0 4 ∷ act give 0 4 ∷ act take 0 5 ∷ act take 0 6 ∷ act take 0 4 ∷ []) skip 1
    ∷ (own ∷ start1 ∷ act take 0 4 ∷ act give 0 4 ∷ act take 1 5 ∷ act give 1 5 ∷ act take 0 5 ∷ act take 0 4 ∷ []) skip 1
    -- a miss between changes nothing, and is none
    ∷ (own ∷ start1 ∷ act take 0 4 ∷ act miss 1 4 ∷ act give 0 4 ∷ act miss 0 4 ∷ act miss 1 4 ∷ act take 0 4 ∷ []) skip 1
    -- "a refused take or give counts for nothing here": a take of what is held, a give by another than its holder
    ∷ (own ∷ act take 0 4 ∷ act give 0 4 ∷ act take 0 4 ∷ act take 0 4 ∷ act take 0 4 ∷ []) skip 1
    ∷ (own ∷ start1 ∷ act take 0 4 ∷ act give 0 4 ∷ act give 1 4 ∷ act take 0 4 ∷ act give 1 4 ∷ act give 0 4 ∷ act take 0 4 ∷ []) skip 2
    -- nor does a task that is no longer live
    ∷ (own ∷ start1 ∷ act take 1 4 ∷ act give 1 4 ∷ act join 0 1 ∷ act take 1 4 ∷ act take 0 4 ∷ []) skip 0
    -- a set, a start and accesses with the semaphore's number give nothing
    ∷ (own ∷ act take 0 1 ∷ act give 0 1 ∷ start1 ∷ act set 1 1 ∷ act write 1 1 ∷ act read 0 1 ∷ act take 0 1 ∷ []) skip 1
    -- outside the profile none is, whoever gave it
    ∷ (act take 0 4 ∷ act give 0 4 ∷ act take 0 4 ∷ act give 0 4 ∷ act take 0 4 ∷ []) skip 0
    -- F-14: "Gives before it never count as the last give", whether their task had taken or not
    ∷ (act give 0 4 ∷ own ∷ act take 0 4 ∷ lost 1 ∷ act take 0 4 ∷ []) skip 0
    ∷ (start1 ∷ act take 1 4 ∷ act give 1 4 ∷ own ∷ act take 1 4 ∷ []) skip 0
    ∷ (start1 ∷ act give 0 4 ∷ act give 1 4 ∷ act owned 1 0 ∷ act take 1 4 ∷ []) skip 0
    -- the first give after it does
    ∷ (start1 ∷ act give 1 4 ∷ own ∷ act take 1 4 ∷ act give 1 4 ∷ act take 1 4 ∷ []) skip 1
    ∷ (start1 ∷ act give 0 4 ∷ own ∷ act take 1 4 ∷ act give 1 4 ∷ act take 0 4 ∷ []) skip 0
    -- what was taken before it is held by nobody: the give is refused, and counts for nothing
    ∷ (act take 0 4 ∷ own ∷ act give 0 4 ∷ act take 0 4 ∷ act give 0 4 ∷ act take 0 4 ∷ []) skip 1
    -- a second `owned` is refused, and the gives before it count
    ∷ (own ∷ start1 ∷ act take 0 4 ∷ act give 0 4 ∷ own ∷ act owned 1 0 ∷ act take 0 4 ∷ []) skip 1
    ∷ []
