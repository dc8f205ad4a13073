-- `reading::words::op`: the kind of what stands before the first space, which eight bytes may have. Assumes nothing.
use mathlib.Core.Path.{sym, ◌∙◌}
use native.Mathlib.Omega.{arith}
use Rattle.text.proofs.Ops.{opens_kind}
use Rattle.reading.proofs.words.op.Goals as goal

pub returns-then-o-lt8 : goal.returns-then-o-lt8
returns-then-o-lt8 c =
    let o = c.guess-o in (
      sym (opens_kind c.args.line.now o.result.kind o.ensures.0 (λ i. (c.type_inv.line i).fits) c.if-line-ge8.true
          (sym c.eight-bytes.ensures ∙ c.if-bytes-o.true ∙ o.ensures.1) (omega arith)),
      o.ensures.0,
    )
