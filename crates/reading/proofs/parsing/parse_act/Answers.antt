-- `reading::parsing::parse_act`: the record is made of what the two fields say. Assumes nothing.
use mathlib.Core.Path.{sym, ◌∙◌}
use Rattle.text.proofs.LineForm.{act_no_task, act_no_on, act_whole}
use Rattle.reading.proofs.parsing.parse_act.Goals as goal

pub returns-in_err-task : goal.returns-in_err-task
returns-in_err-task c =
    let a = c.args in
    let e = c.place_of-e in
    c.from_residual.ensures ∙ sym (act_no_task a.s.now e.result 0 e.ensures.0 a.kind (sym c.field.ensures ∙ c.in_err-task.was))

pub returns-in_err-on : goal.returns-in_err-on
returns-in_err-on c =
    let a = c.args in
    let e = c.place_of-e in
    let p = c.past in
    c.from_residual-in_err-on.ensures ∙ sym (act_no_on a.s.now e.result p.result e.ensures.0 p.ensures.0 a.kind _
    (sym c.field.ensures ∙ c.in_ok-task.was) (sym c.field-2.ensures ∙ c.in_err-on.was))

pub returns : goal.returns
returns c =
    let a = c.args in
    let e = c.place_of-e in
    let p = c.past in
    sym (act_whole a.s.now e.result p.result e.ensures.0 p.ensures.0 a.kind _ _
    (sym c.field.ensures ∙ c.in_ok-task.was) (sym c.field-2.ensures ∙ c.in_ok-on.was))
