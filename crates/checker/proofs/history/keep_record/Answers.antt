-- An access is kept; a fresh empties; nothing else is done.
use mathlib.Core.Path.{sym, ◌∙◌}
use Rattle.theory.proofs.history.Accesses.{kept_other}
use Rattle.checker.proofs.history.keep_record.Goals as goal

pub returns-else-is_access : goal.returns-else-is_access
returns-else-is_access c =
    let h = sym c.is_access.ensures ∙ c.if-is_access.false in
    let a = c.args in
    c.renew.ensures ∙ sym (kept_other a.r.kind a.r.task a.r.on a.number.0 a.last.now h)
