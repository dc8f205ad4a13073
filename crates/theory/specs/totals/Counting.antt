-- What the totals must equal: counts over the records fed and the verdicts that feeding answered. proofs/totals proves it, of the clocks and of the sets.
use Rattle.std.specs.Prelude.{ℕ, ◌+◌, ◌<◌, ◌≡◌, Bool, true, false, ◌&&◌, ◌↔◌, List, [], ◌∷◌, map, T, eqb}
use Rattle.theory.specs.declared.record.Record.{Record}
use Rattle.theory.specs.order.Limits.{variables}
use Rattle.theory.specs.order.Recording.{Event, act, lost, is_access}
use Rattle.theory.specs.acceptance.Table.{recording}
use Rattle.theory.specs.verdicts.Verdict.{Verdict, Race, Clear, Doubt}
use Rattle.theory.specs.basics.Turns.{indicator}
use Rattle.theory.specs.feeding.Meaning.{Meaning, refuses, takes, judges, meaning}
use Rattle.theory.specs.feeding.Feeding.{Checker, runs, after_all}
use Rattle.theory.specs.totals.Totals.{total, any_race, verdict_place}

-- "a count over the whole verdict list": how many accesses of variable v were answered by the verdict w, each record being beside its answer

-- 1 where this record was one, and 0 where not
abbrev pub counts : Verdict → ℕ → Record → Meaning → ℕ
counts w v r (refuses n) = 0
counts w v r (takes n) = 0
counts w v r (judges n x p) = indicator (eqb (verdict_place x) (verdict_place w) && eqb r.on v)

abbrev pub given : Verdict → ℕ → List Record → List Meaning → ℕ
given w v [] answers = 0
given w v (r ∷ rs) [] = 0
given w v (r ∷ rs) (m ∷ answers) = counts w v r m + given w v rs answers

-- "accepted accesses of that variable, where the right side is counted from the list"
abbrev pub access_count : ℕ → List Event → ℕ
access_count v [] = 0
access_count v (act o t n ∷ es) = indicator (is_access o && eqb n v) + access_count v es
access_count v (lost mask ∷ es) = access_count v es

-- the answer is a Race
abbrev pub is_race : Meaning → Bool
is_race (refuses n) = false
is_race (takes n) = false
is_race (judges n w p) = eqb (verdict_place w) (verdict_place Race)

-- some answer of the list was a Race
pub data SomeRace : List Meaning → Type 0 where
  race_now : {m : Meaning} {answers : List Meaning} → T (is_race m) → SomeRace (m ∷ answers)
  race_later : {m : Meaning} {answers : List Meaning} → SomeRace answers → SomeRace (m ∷ answers)

-- what the state says after a list of records, by what they were answered
pub record Totalled (control : List ℕ) (rs : List Record) (answers : List Meaning) : Type 0 where
  -- "The totals .. must equal a count over the whole verdict list"
  pub each : (w : Verdict) (v : ℕ) → v < variables → total w v control ≡ given w v rs answers
  -- "clear + race + doubt = accepted accesses of that variable"
  pub sum : (v : ℕ) → v < variables → total Clear v control + total Race v control + total Doubt v control ≡ access_count v (recording rs)
  -- "Whether there is a Race anywhere"
  pub any_race_lem : (any_race control ≡ true) ↔ SomeRace answers

-- of a checker, after every list of records from a fresh state
abbrev pub KeepsTotals : {S : Type 0} → Checker S → Type 0
KeepsTotals c = (rs : List Record) → Totalled (c.control (after_all c c.fresh rs)) rs (map meaning (runs c rs))
