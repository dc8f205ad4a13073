-- An access that is not refused has its numbers in their ranges.
use mathlib.Core.Path.{sym, ◌∙◌}
use borrow.Author.Tests.{eq-eqb}
use Rattle.theory.specs.acceptance.Control.{control_refusal}
use Rattle.theory.proofs.acceptance.Accepted.{accepts}
use Rattle.theory.proofs.tables.Ranges.{access_acts}
use Rattle.theory.proofs.history.Accesses.{of_access}
use Rattle.checker.proofs.Unsettled.{fine_unrefused}
use Rattle.checker.proofs.asking.is_asked.Goals as goal

pub returns-then-is_ok : goal.returns-then-is_ok
returns-then-is_ok c =
    let a = c.args in
    let none = fine_unrefused _ (sym c.is_ok.ensures.value ∙ c.if-is_ok.true) in
    let p = (accepts a.control.now a.r _ c.refusal.ensures none).proper in (
      rw (eq-eqb (control_refusal a.control.now a.r) 0 (sym c.refusal.ensures ∙ none)) c.is_access.ensures,
      λ h. let e = sym c.is_access.ensures ∙ h in of_access (p.act_fits (access_acts a.r.kind e)) e,
    )
