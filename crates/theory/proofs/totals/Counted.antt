-- The verdict by the two tests that the step makes of an access, and the total that it counts in. Assumes nothing.
use mathlib.Core.Path.{◌≡◌, refl, ◌∙◌, ap}
use mathlib.Core.Bool.{Bool, true, false, cond, not}
use mathlib.Core.List.{List}
use Prim.Native.Nat.{ℕ, ◌+◌, ◌<◌}
use native.Mathlib.Omega.{arith}
use lib.Dec.{eqb}
use lib.ListN.{get_or, set}
use lib.Seq.{set-get_or}
use Rattle.theory.specs.order.Limits.{variables}
use Rattle.theory.specs.verdicts.Verdict.{Verdict, Race, Clear, Doubt}
use Rattle.theory.specs.feeding.Meaning.{meaning}
use Rattle.theory.specs.feeding.Step.{answer_by_tests, answer_by_masks}
use Rattle.theory.specs.tables.Counters.{one_more, raise}
use Rattle.theory.specs.totals.Totals.{races_at, total_at, control_cells, with_verdict, totalled}

-- some task is apart in the fullest filling, and as it arrived
abbrev pub verdict_by : Bool → Bool → Verdict
verdict_by true doubt = Race
verdict_by false true = Doubt
verdict_by false false = Clear

pub told_verdict : (last : List ℕ) (k on number full arrived v : ℕ) (control : List ℕ) →
    totalled (meaning (answer_by_masks last k on number full arrived)) v control ≡ with_verdict (verdict_by (not (eqb full 0)) (not (eqb arrived 0))) v control
unfolding answer_by_masks
told_verdict last k on number full arrived v control = decided (eqb full 0) (eqb arrived 0)
  where
    decided : (a b : Bool) → totalled (meaning (answer_by_tests a b last k on number full arrived)) v control ≡ with_verdict (verdict_by (not a) (not b)) v control
    decided false b = refl
    decided true false = refl
    decided true true = refl

-- where it counts, by the first places
abbrev pub totals_from : Bool → Bool → ℕ
totals_from race doubt = cond race (total_at Race 0) (cond doubt (total_at Doubt 0) (total_at Clear 0))

pub counts_at : (race doubt : Bool) {x v : ℕ} → x ≡ totals_from race doubt → v < variables → (x + v ≡ total_at (verdict_by race doubt) v) × (x + v < control_cells)
counts_at true doubt e h = (omega (arith, e), omega (arith, e))
counts_at false true e h = (omega (arith, e), omega (arith, e))
counts_at false false e h = (omega (arith, e), omega (arith, e))

-- its own total, and the Races' where it is one; else that cell is as it was
pub counted_by : (race doubt : Bool) (v : ℕ) (control : List ℕ) {x : List ℕ} → x ≡ raise (total_at (verdict_by race doubt) v) control →
    set x races_at (cond race (one_more (get_or x races_at 0)) (get_or x races_at 0)) ≡ with_verdict (verdict_by race doubt) v control
unfolding raise
counted_by true doubt v control e = ap (λ (x : List ℕ). set x races_at (one_more (get_or x races_at 0))) e
counted_by false true v control {x} e = set-get_or x races_at 0 ∙ e
counted_by false false v control {x} e = set-get_or x races_at 0 ∙ e
