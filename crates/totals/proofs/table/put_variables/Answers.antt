-- So far the lines of the variables below v are written, and their totals added.
use mathlib.Core.Path.{sym, ◌∙◌}
use native.Mathlib.Omega.{arith}
use Rattle.std.proofs.Common.{rules}
use Rattle.text.proofs.Wrote.{◌then◌, wrote_nothing}
use Rattle.totals.specs.Table.{sums_below, lines_below}
use Rattle.totals.proofs.Lines.{no_sums, Fits32, sums_within_more, known_totals, found_totals, next_lines, next_sums}
use Rattle.totals.proofs.table.put_variables.Goals as goal

pub loop-v-init : goal.loop-v-init
unfolding lines_below sums_below
loop-v-init c = (
  search rules,
  rw (no_sums c.default-sums.ensures) (record { clear = search rules; race = search rules; doubt = search rules }),
  wrote_nothing,
  no_sums c.default-sums.ensures,
)

pub unwrap-t-requires : goal.unwrap-t-requires
unwrap-t-requires c = rw (c.totals_of.ensures ∙ known_totals c.args.control.now c.loop-v.v (omega arith))

pub loop-v-preserved : goal.loop-v-preserved
loop-v-preserved c =
    let l = c.loop-v in
    let ok = c.unwrap-t.type_inv in
    let t = found_totals c.args.control.now l.v (omega arith) (sym c.totals_of.ensures ∙ c.unwrap-t.ensures) in
    let fits : Fits32 c.unwrap-t.result = record { clear = omega (arith, ok); race = omega (arith, ok); doubt = omega (arith, ok) } in
    let m = sums_within_more l.invariant.1 fits c.with-sums.ensures in (
      omega (arith, l.invariant.0, c.put_variable-to.ensures.1),
      record { clear = omega (arith, m.clear); race = omega (arith, m.race); doubt = omega (arith, m.doubt) },
      rw (next_lines c.args.control.now l.v) (l.invariant.2 then (rw t at c.put_variable-to.ensures.0)),
      next_sums c.args.control.now l.v l.invariant.3 t c.with-sums.ensures,
    )
