-- F-13: takes without clock work. "a take needs no clock comparison if the last give of that semaphore was by the same task": which takes these are,
-- and how many of them a recording has.
use Rattle.std.specs.Prelude.{ℕ, ◌+◌, Bool, false, cond, ◌&&◌, List, [], ◌∷◌, ◌++◌, eqb}
use Rattle.theory.specs.order.Recording.{take, give, Event, act, lost, ◌is◌}
use Rattle.theory.specs.acceptance.Owning.{Who, by, is_by, who_since}
use Rattle.theory.specs.basics.Turns.{indicator}

-- who gave semaphore s last, after an event, from who did before
abbrev pub next_giver : Event → ℕ → Who → Who
next_giver (act o t n) s g = cond (eqb n s) (cond (o is give) (by t) g) g
next_giver (lost mask) s g = g

-- "the last give of that semaphore", since the profile began: "Gives before it never count as the last give"
abbrev pub giver : List Event → ℕ → Who
giver es s = who_since next_giver es s

-- after a recording the record is a take of a semaphore whose last give was by the same task
abbrev pub skips : List Event → Event → Bool
skips es (act o t s) = o is take && is_by (giver es s) t
skips es (lost mask) = false

-- "the number of such takes among the accepted records": each record after those before it
abbrev pub skipped_from : List Event → List Event → ℕ
skipped_from before [] = 0
skipped_from before (e ∷ es) = indicator (skips before e) + skipped_from (before ++ (e ∷ [])) es

abbrev pub skipped_takes : List Event → ℕ
skipped_takes es = skipped_from [] es
