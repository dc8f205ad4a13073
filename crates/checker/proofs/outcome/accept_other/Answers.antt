-- Of what is no access only a fresh changes what is kept.
use mathlib.Core.Path.{refl, sym, ◌∙◌}
use Rattle.theory.proofs.history.Accesses.{kept_other}
use Rattle.checker.proofs.outcome.accept_other.Goals as goal

pub returns : goal.returns
returns c =
    let a = c.args in
    (refl, c.renew.ensures ∙ sym (kept_other a.r.kind a.r.task a.r.on a.number.0 a.last.now c.requires.0))
