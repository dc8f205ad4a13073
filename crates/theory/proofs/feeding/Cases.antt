-- The answers of a step by cases, from its definition: a refusal's number is that of a row, and an accepted access gets a verdict.
-- Assumes nothing.
use mathlib.Core.Path.{refl}
use mathlib.Core.Bool.{Bool, true, false}
use mathlib.Core.List.{List}
use Prim.Native.Nat.{ℕ}
use lib.Dec.{eqb}
use Rattle.theory.specs.feeding.Step.{answer_by_tests, answer_by_masks}
use Rattle.theory.specs.feeding.Feeding.{Judged}

verdict_by_lem : (a b : Bool) (last : List ℕ) (k on number full arrived : ℕ) → Judged (answer_by_tests a b last k on number full arrived) number
verdict_by_lem true true last k on number full arrived = (_, _, refl)
verdict_by_lem true false last k on number full arrived = (_, _, refl)
verdict_by_lem false true last k on number full arrived = (_, _, refl)
verdict_by_lem false false last k on number full arrived = (_, _, refl)

pub judged_by : (last : List ℕ) (k on number full arrived : ℕ) → Judged (answer_by_masks last k on number full arrived) number
unfolding answer_by_masks
judged_by last k on number full arrived = verdict_by_lem (eqb full 0) (eqb arrived 0) last k on number full arrived
