-- `reading::parsing::parse_line`: the kind decides how what follows the op is read. Assumes nothing.
use mathlib.Core.Path.{sym, ap, ◌∙◌}
use native.Mathlib.Omega.{arith}
use Rattle.text.specs.LineForm.{space, named_kind}
use Rattle.text.proofs.Bytes.{index_fits}
use Rattle.text.proofs.LineForm.{cut_before, parsed_by, rest_act, rest_mark}
use Rattle.text.proofs.Ops.{op_ends, no_op_read}
use Rattle.reading.proofs.parsing.parse_line.Goals as goal

pub returns-in_err-kind : goal.returns-in_err-kind
returns-in_err-kind c = c.from_residual.ensures ∙ sym (no_op_read c.args.line.now _ (sym c.in_err-kind.ensures) (omega arith))

-- the op ends at the first space
pub past-requires : goal.past-requires
past-requires c =
    let s = c.args.line.now in
    let k = c.in_ok-kind in
    omega (arith, c.op_end.ensures ∙ op_ends s k.kind k.ensures.0 k.ensures.1, index_fits space s)

pub returns-then-kind-eq-LOST : goal.returns-then-kind-eq-LOST
returns-then-kind-eq-LOST c =
    let p = c.past in
    let k = c.in_ok-kind in
    let e = c.op_end.result in
    let s = c.args.line.now in
    let cut = c.op_end.ensures ∙ op_ends s k.kind k.ensures.0 k.ensures.1 in
    sym (parsed_by s e p.result cut p.ensures.0 k.kind (k.ensures.0 ∙ ap named_kind (sym (cut_before s e p.result cut)))
    ∙ rest_mark _ _ c.if-kind-eq-LOST.true ∙ sym c.parse_mark.ensures)

pub returns-else-kind-eq-LOST : goal.returns-else-kind-eq-LOST
returns-else-kind-eq-LOST c =
    let p = c.past in
    let k = c.in_ok-kind in
    let e = c.op_end.result in
    let s = c.args.line.now in
    let cut = c.op_end.ensures ∙ op_ends s k.kind k.ensures.0 k.ensures.1 in
    sym (parsed_by s e p.result cut p.ensures.0 k.kind (k.ensures.0 ∙ ap named_kind (sym (cut_before s e p.result cut)))
    ∙ rest_act _ _ k.ensures.1 c.if-kind-eq-LOST.false ∙ sym c.parse_act.ensures)
