-- The partner is that of the mask that decides, where one does.
use mathlib.Core.Path.{◌∙◌}
use Rattle.theory.proofs.feeding.Parts.{judged_so}
use Rattle.checker.proofs.masks.judged.Goals as goal

pub returns : goal.returns
returns c =
    let a = c.args in
    let p = c.requires in
    let m = rw (c.lower_half.ensures, c.lower_half-2.ensures) at c.picked-mask.ensures in
    c.answer_by.ensures
    ∙ judged_so a.last.now a.access.kind a.access.variable.0 a.number.0 a.words.full a.words.arrived c.latest_number-partner.result p.0 p.1 m
    (λ h. rw (← c.lowest.ensures.0 h) c.latest_number-partner.ensures)
