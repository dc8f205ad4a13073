-- `reading::words::known_op`: eight bytes that are those of a kind begin with its op. Assumes nothing.
use mathlib.Core.Path.{sym, ◌∙◌}
use native.Mathlib.Omega.{arith}
use Rattle.text.proofs.Ops.{says_op, op_bytes_lem, op_long}
use Rattle.reading.proofs.words.known_op.Goals as goal

pub returns-then-o-ne-LOST : goal.returns-then-o-ne-LOST
returns-then-o-ne-LOST c =
    let o = c.guess-o in (
      c.if-o-ne-LOST.true,
      record {
        known = o.ensures.0;
        says = says_op c.args.s.now c.args.p o.result.kind o.ensures.0 (λ i. (c.type_inv.s i).fits) c.requires
            (sym c.eight-bytes.ensures ∙ c.if-bytes-o.true ∙ o.ensures.1);
        long = sym (o.ensures.2 ∙ op_bytes_lem o.result.kind o.ensures.0);
      },
      omega (arith, o.ensures.2 ∙ op_bytes_lem o.result.kind o.ensures.0, op_long o.result.kind o.ensures.0),
    )
