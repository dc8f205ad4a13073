-- Only the rows of every act can refuse it; of an accepted one the calls' equations are put together.
use mathlib.Core.Path.{◌≡◌, sym, ◌∙◌}
use mathlib.Core.Bool.{Bool, false, true≢false}
use mathlib.Core.List.{List}
use Prim.Native.Nat.{ℕ}
use lib.Dec.{leb}
use Rattle.std.specs.Prelude.{Result}
use Rattle.theory.specs.declared.record.Record.{Record}
use Rattle.theory.specs.declared.refusal.Refusal.{Refusal}
use Rattle.theory.specs.order.Recording.{series_size}
use Rattle.theory.specs.acceptance.Table.{Fitting, first_row}
use Rattle.theory.specs.acceptance.Control.{under_in, control_standing, counted}
use Rattle.theory.specs.fillings.Completion.{arrived, full}
use Rattle.theory.specs.tables.Reckonings.{masks_by}
use Rattle.theory.specs.feeding.Step.{next_number}
use Rattle.theory.proofs.acceptance.Plain.{common_rows, Plainly, plain_hand_over}
use Rattle.theory.proofs.feeding.Parts.{stepped, act_moved}
use Rattle.theory.proofs.tables.HandOver.{HandOverKind, hand_acts, hand_no_access}
use Rattle.acceptance.specs.declared.admission.Admitted.{Admitted}
use Rattle.acceptance.specs.Admission.{admitted_as, unless}
use Rattle.acceptance.proofs.Admits.{Answers, Leaves, Admits, plain_as, admits, refused_step}
use Rattle.checker.proofs.Accepting.{other_by}
use Rattle.checker.proofs.fast_steps.step_hand_over.Goals as goal

module _ (control : List ℕ) (r : Record) (hands : HandOverKind r.kind × (under_in control ≡ false)) where
  plain : Plainly control r.kind r.task r.on
  plain = plain_hand_over control r.task r.on hands.0 hands.1

  asked : {o : Bool} {after : List ℕ} {x : Result Admitted Refusal} → o ≡ leb (series_size r.kind) r.on →
      (x ≡ admitted_as (first_row (common_rows (control_standing control) r.task o)) (next_number control) r.kind)
      × (after ≡ unless (first_row (common_rows (control_standing control) r.task o)) (counted control) control) →
      Answers control r x × Leaves control r after
  asked o e = plain_as control r plain o e.0 e.1

  -- once no row applies
  fitting : {after : List ℕ} {a : Admitted} → Admits control r a after → Fitting r.kind r.task r.on
  fitting x = x.accepted.proper.act_fits (hand_acts hands.0)

pub returns-in-Err-clause-stepped : goal.returns-in-Err-clause-stepped
returns-in-Err-clause-stepped c =
    let a = c.args in
    let e = asked a.tables.now.control.now a.r c.requires c.no_object.ensures c.admit_plain.ensures in
    refused_step a.tables.now.control.now a.tables.now.last.now a.tables.now.clocks.now a.tables.now.fullclocks.now a.r e.0 e.1 c.in-Err.is

pub returns-clause-stepped : goal.returns-clause-stepped
returns-clause-stepped c =
    let a = c.args in
    let k = a.r.kind in
    let t = a.r.task in
    let n = next_number a.tables.now.control.now in
    let e = asked a.tables.now.control.now a.r c.requires c.no_object.ensures c.admit_plain.ensures in
    let x = admits a.tables.now.control.now a.r e.0 e.1 c.in-Ok.is in
    let q = c.accept_other.ensures in
    let act = hand_acts c.requires.0 in
    let no_access = hand_no_access c.requires.0 in
    let moved = rw (c.own_both.ensures.0, c.own_both.ensures.1, x.number) at c.hand_over.ensures in
    let unskipped = (plain a.tables.now.control.now a.r c.requires).unskipped in
    stepped a.tables.now.control.now a.tables.now.last.now a.r x.refusal (other_by (masks_by 0 0) x no_access q.0 q.1) a.tables.now.clocks.now a.tables.now.fullclocks.now
    (λ h. absurd (true≢false (sym h ∙ no_access)))
    (rw unskipped (act_moved arrived k t a.r.on n a.tables.now.clocks.now act moved.0))
    (rw unskipped (act_moved full k t a.r.on n a.tables.now.fullclocks.now act moved.1))
