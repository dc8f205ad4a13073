-- F-12 and F-14: short lists of records, fed from a fresh state, with the refusal that each record gets. proofs/acceptance/Examples.antt proves the table, by
-- computing it.
use Rattle.std.specs.Prelude.{ℕ, ◌≡◌, List, [], ◌∷◌, map}
use Rattle.theory.specs.order.Recording.{Event, act, lost, read, take, give, look, set, start, join, miss, owned}
use Rattle.theory.specs.verdicts.Examples.{own}
use Rattle.theory.specs.feeding.Feeding.{event_record, refusals_after}

-- a record as it is fed, and its refusal; 0 where it is accepted
pub record Fed : Type 0 where
  pub event : Event
  pub refusal : ℕ

infix 90 ◌gets◌
abbrev pub ◌gets◌ : Event → ℕ → Fed
e gets n = record { event = e; refusal = n }

-- each record of each list gets the refusal that stands with it
abbrev pub AllGet : List (List Fed) → Type 0
AllGet lists =
    map (λ (l : List Fed). refusals_after [] (map (λ (x : Fed). event_record x.event) l)) lists
    ≡ map (λ (l : List Fed). map (λ (x : Fed). x.refusal) l) lists

abbrev pub start1 : Event
start1 = act start 0 1

abbrev pub refusal_lists : List (List Fed)
refusal_lists =
    -- "A recording whose first record is `op=owned task=0 on=0`", and "all are free at the start"
    (own gets 0 ∷ act take 0 4 gets 0 ∷ act take 0 31 gets 0 ∷ [])
    -- the same after refused records
    ∷ (act take 1 4 gets 6 ∷ act read 0 64 gets 3 ∷ lost 0 gets 4 ∷ own gets 0 ∷ act give 0 4 gets 16 ∷ [])
    -- F-14: "Allow `op=owned` once at any record, by any live task": after acts and after a loss mark, by task 0 and by another
    ∷ (act read 0 5 gets 0 ∷ own gets 0 ∷ act give 0 4 gets 16 ∷ lost 1 gets 15 ∷ [])
    ∷ (lost 1 gets 0 ∷ own gets 0 ∷ lost 1 gets 15 ∷ act take 0 4 gets 0 ∷ act take 0 4 gets 16 ∷ [])
    ∷ (start1 gets 0 ∷ act owned 1 0 gets 0 ∷ act give 0 4 gets 16 ∷ act take 1 4 gets 0 ∷ act take 0 4 gets 16 ∷ [])
    -- "Number 14 is now given for a second `owned` only", at the start and later, by its task and by another. The recording is as it was
    ∷ (own gets 0 ∷ own gets 14 ∷ act take 0 4 gets 0 ∷ own gets 14 ∷ act take 0 4 gets 16 ∷ [])
    ∷ (own gets 0 ∷ start1 gets 0 ∷ act owned 1 0 gets 14 ∷ [])
    ∷ (start1 gets 0 ∷ act owned 1 0 gets 0 ∷ act take 1 4 gets 0 ∷ own gets 14 ∷ act owned 1 0 gets 14 ∷ act take 0 4 gets 16 ∷ act give 1 4 gets 0 ∷ [])
    -- not for one after an `owned` that was refused
    ∷ (act owned 0 1 gets 3 ∷ act owned 1 0 gets 6 ∷ act give 0 4 gets 0 ∷ own gets 0 ∷ own gets 14 ∷ [])
    -- "All semaphores count as free at that point": one that was taken before it is given by nobody after it, its taker neither, and may be taken
    ∷ (start1 gets 0 ∷ act take 0 4 gets 0 ∷ act take 1 5 gets 0 ∷ own gets 0 ∷ act give 0 4 gets 16 ∷ act give 1 5 gets 16 ∷ act take 0 4 gets 0
    ∷ act give 0 4 gets 0 ∷ act take 0 5 gets 0 ∷ act take 1 5 gets 16 ∷ [])
    -- "15 and 16 apply after the first": before it each of these is accepted, and after it none is
    ∷ (start1 gets 0 ∷ act take 0 4 gets 0 ∷ act take 1 4 gets 0 ∷ act take 1 4 gets 0 ∷ act give 0 6 gets 0 ∷ lost 3 gets 0 ∷ act owned 1 0 gets 0
    ∷ act take 0 4 gets 0 ∷ act take 1 4 gets 16 ∷ act take 0 4 gets 16 ∷ act give 0 6 gets 16 ∷ lost 3 gets 15 ∷ [])
    -- "`owned` with `on` other than 0 is a 3", also a second one
    ∷ (act owned 0 1 gets 3 ∷ own gets 0 ∷ act owned 0 1 gets 3 ∷ [])
    -- by a task above 15 it is a 2, and by one that is not live a 6, unseen or ended, also a second one
    ∷ (act owned 16 0 gets 2 ∷ act owned 1 0 gets 6 ∷ own gets 0 ∷ act owned 16 0 gets 2 ∷ act owned 1 0 gets 6 ∷ [])
    ∷ (start1 gets 0 ∷ act join 0 1 gets 0 ∷ act owned 1 0 gets 6 ∷ own gets 0 ∷ act owned 1 0 gets 6 ∷ own gets 14 ∷ [])
    -- "15 a loss mark under the profile"
    ∷ (own gets 0 ∷ start1 gets 0 ∷ lost 1 gets 15 ∷ lost 3 gets 15 ∷ [])
    -- "Three numbers after 9": a mask of 0 or above 65,535, and one that names a task which is not live
    ∷ (own gets 0 ∷ lost 0 gets 4 ∷ lost 65536 gets 4 ∷ lost 2 gets 9 ∷ [])
    -- "a take needs a free semaphore", "16 a take of a held semaphore": by another task, and by its holder too. Another semaphore is free
    ∷ (own gets 0 ∷ start1 gets 0 ∷ act take 0 4 gets 0 ∷ act take 1 4 gets 16 ∷ act take 0 4 gets 16 ∷ act take 1 5 gets 0 ∷ [])
    -- "a give needs its holder": 16 where the semaphore is free, and where another task holds it. Once given it is free
    ∷ (own gets 0 ∷ start1 gets 0 ∷ act give 0 4 gets 16 ∷ act take 0 4 gets 0 ∷ act give 1 4 gets 16 ∷ act give 0 4 gets 0
    ∷ act give 0 4 gets 16 ∷ act take 1 4 gets 0 ∷ act give 0 4 gets 16 ∷ act give 1 4 gets 0 ∷ act take 1 4 gets 0 ∷ [])
    -- a refused take makes nobody the holder, and a refused give frees nothing
    ∷ (own gets 0 ∷ start1 gets 0 ∷ act take 0 4 gets 0 ∷ act take 1 4 gets 16 ∷ act give 1 4 gets 16 ∷ act take 1 4 gets 16 ∷ act give 0 4 gets 0 ∷ [])
    -- a miss "leaves the semaphore as it was", held or free
    ∷ (own gets 0 ∷ start1 gets 0 ∷ act take 0 4 gets 0 ∷ act miss 1 4 gets 0 ∷ act miss 0 4 gets 0 ∷ act take 1 4 gets 16 ∷ act give 1 4 gets 16
    ∷ act give 0 4 gets 0 ∷ act miss 0 4 gets 0 ∷ act give 0 4 gets 16 ∷ act take 1 4 gets 0 ∷ [])
    -- "A join does not free what the ended task held": nobody can take or give it any more
    ∷ (own gets 0 ∷ start1 gets 0 ∷ act take 1 4 gets 0 ∷ act join 0 1 gets 0 ∷ act take 0 4 gets 16 ∷ act give 0 4 gets 16 ∷ act give 1 4 gets 6 ∷ [])
    -- the task, the flag and the variable of a semaphore's number have nothing to do with it
    ∷ (own gets 0 ∷ act take 0 1 gets 0 ∷ start1 gets 0 ∷ act set 1 1 gets 0 ∷ act look 1 1 gets 0 ∷ act read 1 1 gets 0 ∷ act join 0 1 gets 0
    ∷ act take 0 1 gets 16 ∷ act give 0 1 gets 0 ∷ [])
    -- outside the profile all of these are accepted
    ∷ (start1 gets 0 ∷ act give 0 4 gets 0 ∷ act take 0 4 gets 0 ∷ act take 1 4 gets 0 ∷ act take 0 4 gets 0 ∷ act give 1 4 gets 0 ∷ act give 1 4 gets 0
    ∷ act miss 1 4 gets 0 ∷ act take 1 5 gets 0 ∷ lost 3 gets 0 ∷ act join 0 1 gets 0 ∷ act take 0 5 gets 0 ∷ act give 0 5 gets 0 ∷ [])
    ∷ []
