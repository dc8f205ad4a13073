-- Only the rows of every act can refuse it; of an accepted one the calls' equations are put together.
use mathlib.Core.Path.{◌≡◌}
use mathlib.Core.Bool.{Bool, true}
use mathlib.Core.List.{List}
use Prim.Native.Nat.{ℕ}
use lib.Dec.{leb}
use Rattle.std.specs.Prelude.{Result}
use Rattle.theory.specs.declared.record.Record.{Record}
use Rattle.theory.specs.declared.refusal.Refusal.{Refusal}
use Rattle.theory.specs.order.Limits.{variables}
use Rattle.theory.specs.order.Recording.{accesses}
use Rattle.theory.specs.acceptance.Table.{first_row}
use Rattle.theory.specs.acceptance.Control.{control_standing, counted}
use Rattle.theory.specs.fillings.Completion.{arrived, full}
use Rattle.theory.specs.feeding.Step.{next_number}
use Rattle.theory.proofs.acceptance.Plain.{common_rows, Plainly, plain_access}
use Rattle.theory.proofs.feeding.Parts.{stepped, kept_moved}
use Rattle.theory.proofs.history.Accesses.{OfAccess, of_access}
use Rattle.theory.proofs.tables.Bits.{halved_twice, mask_lt}
use Rattle.theory.proofs.tables.Ranges.{access_acts, access_keeps, access_size}
use Rattle.acceptance.specs.declared.admission.Admitted.{Admitted}
use Rattle.acceptance.specs.Admission.{admitted_as, unless}
use Rattle.acceptance.proofs.Admits.{Answers, Leaves, Admits, plain_as, admits, accepted_by, refused_step}
use Rattle.checker.proofs.fast_steps.step_access.Goals as goal

module _ (control : List ℕ) (r : Record) (access : accesses r.kind ≡ true) where
  plain : Plainly control r.kind r.task r.on
  plain = plain_access control r.task r.on r.kind access

  asked : {o : Bool} {after : List ℕ} {x : Result Admitted Refusal} → o ≡ leb variables r.on →
      (x ≡ admitted_as (first_row (common_rows (control_standing control) r.task o)) (next_number control) r.kind)
      × (after ≡ unless (first_row (common_rows (control_standing control) r.task o)) (counted control) control) →
      Answers control r x × Leaves control r after
  asked o e = plain_as control r plain (rw (access_size r.kind access) o) e.0 e.1

  -- once no row applies
  fitting : {after : List ℕ} {a : Admitted} → Admits control r a after → OfAccess r.kind r.task r.on
  fitting x = of_access (x.accepted.proper.act_fits (access_acts r.kind access)) access

pub returns-in-Err-clause-stepped : goal.returns-in-Err-clause-stepped
returns-in-Err-clause-stepped c =
    let a = c.args in
    let e = asked a.tables.now.control.now a.r c.requires c.beyond.ensures c.admit_plain.ensures in
    refused_step a.tables.now.control.now a.tables.now.last.now a.tables.now.clocks.now a.tables.now.fullclocks.now a.r e.0 e.1 c.in-Err.is

pub returns-clause-stepped : goal.returns-clause-stepped
returns-clause-stepped c =
    let a = c.args in
    let k = a.r.kind in
    let t = a.r.task in
    let n = next_number a.tables.now.control.now in
    let e = asked a.tables.now.control.now a.r c.requires c.beyond.ensures c.admit_plain.ensures in
    let x = admits a.tables.now.control.now a.r e.0 e.1 c.in-Ok.is in
    let is = c.of-access.ensures in
    let q = rw (is.0, is.1, is.2) at c.accept_access.ensures in
    let w = rw (is.0, is.1, is.2) at c.clock_words-words.ensures in
    let own = rw (is.1, x.number) at c.own_both.ensures in
    let task_fits = (fitting a.tables.now.control.now a.r c.requires x).task_fits in
    let act = access_acts k c.requires in
    let keeps = access_keeps k c.requires in
    let unskipped = (plain a.tables.now.control.now a.r c.requires).unskipped in
    stepped a.tables.now.control.now a.tables.now.last.now a.r x.refusal (accepted_by x q.0 q.1 q.2) a.tables.now.clocks.now a.tables.now.fullclocks.now
    (λ _. rw ((halved_twice w.0 (mask_lt _)).0, (halved_twice w.1 (mask_lt _)).0))
    (rw unskipped (kept_moved arrived k t a.r.on n a.tables.now.clocks.now act keeps task_fits own.0))
    (rw unskipped (kept_moved full k t a.r.on n a.tables.now.fullclocks.now act keeps task_fits own.1))
