-- Each sort has its step.
use mathlib.Core.Path.{◌≡◌, sym, ◌∙◌}
use mathlib.Core.Bool.{true, not, ◌&&◌}
use mathlib.Mathlib.Data.Bool.Basic.{and_elim_left, and_elim_right}
use borrow.Author.Tests.{not-true}
use Rattle.theory.proofs.tables.HandOver.{hands_over_lem}
use Rattle.checker.proofs.stepping.step_in_place.Goals as goal

pub step_hand_over-requires : goal.step_hand_over-requires
step_hand_over-requires c =
    let t : (c.hands_over.result && not c.is_under.result) ≡ true = c.if-hands_over-is_under.true in (
      hands_over_lem _ (sym c.hands_over.ensures ∙ and_elim_left c.hands_over.result _ t),
      sym c.is_under.ensures ∙ not-true _ (and_elim_right c.hands_over.result _ t),
    )
