-- What a step may count on once no row applies, and what its definition comes to in either case. Assumes nothing.
use mathlib.Core.Path.{◌≡◌, refl, sym, ◌∙◌, subst}
use mathlib.Core.List.{List}
use Prim.Native.Nat.{ℕ, zero, suc, ◌<◌}
use Rattle.theory.specs.declared.record.Record.{Record}
use Rattle.theory.specs.declared.answer.Answer.TheVariants.{Refused}
use Rattle.theory.specs.declared.state.SetState.{SetState}
use Rattle.theory.specs.declared.state.State.{State}
use Rattle.theory.specs.order.Limits.{records}
use Rattle.theory.specs.order.Recording.{Op, kind, loss_mark}
use Rattle.theory.specs.acceptance.Table.{Proper, Fitting}
use Rattle.theory.specs.acceptance.Refusals.{numbered_row}
use Rattle.theory.specs.acceptance.Control.{count_in, control_standing, control_refusal}
use Rattle.theory.specs.declared.masks.Masks.{Masks}
use Rattle.theory.specs.tables.Reckonings.{masks_by}
use Rattle.theory.specs.feeding.Step.{masks_unless, set_step_unless, step_unless}
use borrow.Author.Tests.{eqb-false}
use Rattle.theory.proofs.acceptance.Rows.{allowed}
use Rattle.theory.proofs.order.Ops.{no_mark}

-- an accepted record is proper, and there is room for it
pub record Accepts (control : List ℕ) (r : Record) : Type 0 where
  pub room : count_in control < records
  pub proper : Proper r.kind r.task r.on

pub accepts : (control : List ℕ) (r : Record) (n : ℕ) → n ≡ control_refusal control r → n ≡ 0 → Accepts control r
accepts control r n e z =
    let p = allowed (control_standing control) r (sym e ∙ z) in
    record { room = p.room; proper = record { act_fits = λ q. (p.act q).fits; mark_names = λ q. (p.mark q).some } }

-- the numbers of a proper record of an op are in their ranges
pub fits_of : {k task on : ℕ} → Proper k task on → (o : Op) → k ≡ kind o → Fitting (kind o) task on
fits_of {k} {task} {on} p o q = subst (λ (i : ℕ). Fitting i task on) q (p.act_fits (λ w. eqb-false (kind o) loss_mark (no_mark o) (sym q ∙ w)))

-- a refused record leaves the state as it was

pub set_refused : (n : ℕ) (s : SetState) (r : Record) → ¬ (n ≡ 0) → record { state = s; answer = Refused (numbered_row n) } ≡ set_step_unless n s r
set_refused zero s r h = absurd (h refl)
set_refused (suc n) s r h = refl

pub refused : (n : ℕ) (s : State) (r : Record) → ¬ (n ≡ 0) → record { state = s; answer = Refused (numbered_row n) } ≡ step_unless n s r
refused zero s r h = absurd (h refl)
refused (suc n) s r h = refl

-- no masks for a record that would be refused
pub refused_masks : (n : ℕ) (m : Masks) → ¬ (n ≡ 0) → masks_by 0 0 ≡ masks_unless n m
refused_masks zero m h = absurd (h refl)
refused_masks (suc n) m h = refl
