-- F-12 and F-14: the profile of owned semaphores. "A recording whose first record is `op=owned task=0 on=0` follows that profile: a take needs a free
-- semaphore, a give needs its holder", and a recording may come to it later: "Allow `op=owned` once at any record, by any live task. All semaphores count
-- as free at that point". The rows that say so are in Table.antt.
use Rattle.std.specs.Prelude.{ℕ, ◌≡◌, Bool, true, false, cond, ◌||◌, List, [], ◌∷◌, eqb}
use Rattle.theory.specs.order.Recording.{take, give, owned, Event, act, lost, ◌is◌}

-- the record puts the recording under the profile
abbrev pub is_owned : Event → Bool
is_owned (act o t n) = o is owned
is_owned (lost mask) = false

-- the recording is under the profile
abbrev pub under : List Event → Bool
under [] = false
under (e ∷ es) = is_owned e || under es

-- what came since: the records after the first `owned`, and none where there is none
abbrev pub since : List Event → List Event
since [] = []
since (e ∷ es) = cond (is_owned e) es (since es)

-- a task, or nobody
pub data Who : Type 0 where
  nobody : Who
  by : ℕ → Who

abbrev pub is_somebody : Who → Bool
is_somebody nobody = false
is_somebody (by t) = true

abbrev pub is_by : Who → ℕ → Bool
is_by nobody u = false
is_by (by t) u = eqb t u

-- who holds semaphore s after an event, from who held it before: a take makes its task the holder, and a give frees the semaphore. Nothing else does,
-- "A join does not free what the ended task held"
abbrev pub next_holder : Event → ℕ → Who → Who
next_holder (act o t n) s h = cond (eqb n s) (cond (o is take) (by t) (cond (o is give) nobody h)) h
next_holder (lost mask) s h = h

-- who it is after a list of events, one after the other
abbrev pub later_who : (Event → ℕ → Who → Who) → Who → List Event → ℕ → Who
later_who next h [] s = h
later_who next h (e ∷ es) s = later_who next (next e s h) es s

-- who it is after a recording: what came since the profile began counts, and there it is nobody
abbrev pub who_since : (Event → ℕ → Who → Who) → List Event → ℕ → Who
who_since next es s = later_who next nobody (since es) s

-- "holder" of semaphore s after a recording: "All semaphores count as free at that point", also one that was taken before it
abbrev pub holder : List Event → ℕ → Who
holder es s = who_since next_holder es s

-- "A recording whose first record is `op=owned`"
pub data OwnedFirst : List Event → Type 0 where
  owned_first : {t n : ℕ} {es : List Event} → OwnedFirst (act owned t n ∷ es)

-- what the profile asks of an accepted record e, after those before it
pub record KeepsProfile (es : List Event) (e : Event) : Type 0 where
  -- "`op=owned` once at any record"
  pub owned_once : is_owned e ≡ true → under es ≡ false
  -- "Loss marks are not allowed in it"
  pub no_mark : (mask : ℕ) → e ≡ lost mask → under es ≡ false
  -- "a take needs a free semaphore"
  pub takes_free : (t s : ℕ) → e ≡ act take t s → under es ≡ true → holder es s ≡ nobody
  -- "a give needs its holder"
  pub gives_own : (t s : ℕ) → e ≡ act give t s → under es ≡ true → holder es s ≡ by t
