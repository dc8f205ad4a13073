-- A field that an op does not use is not looked at, by the clocks and by the sets, in any state. Assumes nothing.
use mathlib.Core.Path.{◌≡◌, refl, sym, ◌∙◌, ap, transport}
use mathlib.Core.Bool.{Bool}
use mathlib.Core.List.{List}
use Prim.Native.Nat.{ℕ, zero, suc, ◌≤◌, ◌<◌}
use native.Mathlib.Omega.{arith}
use lib.ListN.{length}
use borrow.Author.Tests.{le-leb}
use Rattle.theory.specs.declared.record.Record.{Record}
use Rattle.theory.specs.declared.state.State.{State}
use Rattle.theory.specs.declared.state.Stepped.{Stepped}
use Rattle.theory.specs.declared.state.SetState.{SetState}
use Rattle.theory.specs.declared.state.SetStepped.{SetStepped}
use Rattle.theory.specs.order.Recording.{kinds, loss_mark}
use Rattle.theory.specs.acceptance.Table.{Standing, standing_refusal}
use Rattle.theory.specs.acceptance.Control.{control_standing, control_refusal}
use Rattle.theory.specs.basics.Turns.{turns}
use Rattle.theory.specs.history.History.{under_each}
use Rattle.theory.specs.feeding.Step.{record_of, step_unless, step_of, set_step_unless, set_step_of}
use Rattle.theory.specs.feeding.Feeding.{by_clocks, by_sets, SameUse, Overlooks}
use Rattle.theory.proofs.basics.Reflects.{Reflects, right, wrong, equal, at_most}
use Rattle.theory.proofs.acceptance.Rows.{mark_rows_lem}

-- Records that are the same but for what is not used, by cases: the same, of no kind, or marks of one mask

data Alike : Record → Record → Type 0 where
  same : {r : Record} → Alike r r
  unknown : {r r' : Record} → length kinds ≤ r.kind → length kinds ≤ r'.kind → Alike r r'
  marks : (t u mask : ℕ) → Alike (record_of loss_mark t mask) (record_of loss_mark u mask)

alike : {r r' : Record} → SameUse r r' → Alike r r'
alike {r} {r'} x = decided (at_most (suc r.kind) (length kinds))
  where
    known : {b : Bool} → r.kind < length kinds → Reflects (r.kind ≡ loss_mark) b → Alike r r'
    known h (right e) =
        transport (λ i. Alike (record { kind = sym e i; task = r.task; on = r.on }) (record { kind = (sym e ∙ x.same_kind) i; task = r'.task; on = x.same_on h i }))
        (marks r.task r'.task r.on)
    known h (wrong n) = transport (λ i. Alike r (record { kind = x.same_kind i; task = x.same_task h n i; on = x.same_on h i })) same

    decided : {b : Bool} → Reflects (r.kind < length kinds) b → Alike r r'
    decided (right h) = known h (equal r.kind loss_mark)
    decided (wrong n) = unknown {r = r} {r' = r'} (omega arith) (omega (arith, x.same_kind))

-- The refusal

unknown_refused : (s : Standing) (r : Record) → length kinds ≤ r.kind → standing_refusal s r ≡ 1
unfolding standing_refusal
unknown_refused s r h = rw (le-leb (length kinds) r.kind h)

mark_refused : (s : Standing) (t u mask : ℕ) → standing_refusal s (record_of loss_mark t mask) ≡ standing_refusal s (record_of loss_mark u mask)
mark_refused s t u mask = mark_rows_lem s (record_of loss_mark t mask) refl ∙ sym (mark_rows_lem s (record_of loss_mark u mask) refl)

-- The steps

-- one that goes by the refusal of the table, looks at nothing of a refused record, and at no more than the mask of an accepted mark
module _ {S X : Type 0} (control : S → List ℕ) (by : ℕ → S → Record → X) (refused : (n : ℕ) (s : S) (r r' : Record) → by (suc n) s r ≡ by (suc n) s r')
    (marked : (s : S) (t u mask : ℕ) → by zero s (record_of loss_mark t mask) ≡ by zero s (record_of loss_mark u mask)) where
  step_alike : (s : S) {r r' : Record} → Alike r r' → by (control_refusal (control s) r) s r ≡ by (control_refusal (control s) r') s r'
  step_alike s same = refl
  step_alike s (unknown {r = r} {r' = r'} h h') =
      rw (unknown_refused (control_standing (control s)) r h, unknown_refused (control_standing (control s)) r' h') (refused 0 s r r')
  step_alike s (marks t u mask) = rw (mark_refused (control_standing (control s)) t u mask) (of_mark (control_refusal (control s) (record_of loss_mark u mask)))
    where
      of_mark : (n : ℕ) → by n s (record_of loss_mark t mask) ≡ by n s (record_of loss_mark u mask)
      of_mark zero = marked s t u mask
      of_mark (suc n) = refused n s (record_of loss_mark t mask) (record_of loss_mark u mask)

pub clocks_overlook : Overlooks by_clocks
unfolding step_of under_each turns
clocks_overlook s r r' x =
    let e = step_alike (λ (y : State). y.control) step_unless (λ n y a b. refl) (λ y t u mask. refl) s (alike x) in
    (ap (λ (y : Stepped). y.answer) e, ap (λ (y : Stepped). y.state) e)

pub sets_overlook : Overlooks by_sets
unfolding set_step_of under_each turns
sets_overlook s r r' x =
    let e = step_alike (λ (y : SetState). y.control) set_step_unless (λ n y a b. refl) (λ y t u mask. refl) s (alike x) in
    (ap (λ (y : SetStepped). y.answer) e, ap (λ (y : SetStepped). y.state) e)
