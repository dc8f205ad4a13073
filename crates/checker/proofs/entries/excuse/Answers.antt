-- No entry was taken in, or the tasks that are open decide.
use mathlib.Core.Path.{◌≡◌, refl, sym, ◌∙◌}
use mathlib.Core.Bool.{true, ◌&&◌}
use mathlib.Mathlib.Data.Bool.Basic.{and_elim_left, and_elim_right}
use native.Mathlib.Omega.{arith}
use borrow.Author.Tests.{lt-ltb, ltb-true}
use lib.Dec.{ltb}
use Rattle.theory.specs.order.Limits.{tasks, variables}
use Rattle.theory.specs.order.Recording.{accesses}
use Rattle.theory.specs.declared.record.Record.{Record}
use Rattle.requests.specs.entries.Table.{entry_count, access_in_range, tables_excuse}
use Rattle.theory.proofs.history.Accesses.{OfAccess}
use Rattle.checker.proofs.entries.excuse.Goals as goal
use Rattle.checker.proofs.entries.excuse.Goals.{else-control-ne0-via-then-control-ne0+else-access_in_range, else-control-ne0-via-else-control-ne0}

-- what the test says of the record
of_access : (r : Record) → access_in_range r ≡ true → OfAccess r.kind r.task r.on
of_access r e =
    let q = and_elim_right (accesses r.kind) (ltb r.task tasks && ltb r.on variables) e in
    record {
      is_access_lem = and_elim_left (accesses r.kind) (ltb r.task tasks && ltb r.on variables) e;
      task_fits = ltb-true r.task tasks (and_elim_left (ltb r.task tasks) (ltb r.on variables) q);
      variable_fits = ltb-true r.on variables (and_elim_right (ltb r.task tasks) (ltb r.on variables) q);
    }

pub returns-then-access_in_range : goal.returns-then-access_in_range
unfolding tables_excuse
returns-then-access_in_range c =
    let is = c.of-access.ensures in
    -- an entry was taken in
    let some = lt-ltb 0 (entry_count c.args.control.now) (omega arith) in
    let mask = rw (is.0, is.1, is.2) at c.open_mask-open.ensures in
    rw (some, sym c.access_in_range.ensures ∙ c.if-access_in_range.true, ← mask) (rw (is.0, is.2) at c.excuse_open.ensures)

pub returns : goal.returns
unfolding tables_excuse
returns c =
    elim c.else-control-ne0.branch [
      | else-control-ne0-via-then-control-ne0+else-access_in_range w ↦
          let some = lt-ltb 0 (entry_count c.args.control.now) (omega arith) in
          rw (some, sym w.access_in_range.ensures ∙ w.if-access_in_range.false) refl
      | else-control-ne0-via-else-control-ne0 w ↦ rw w.if-control-ne0.false refl
    ]
