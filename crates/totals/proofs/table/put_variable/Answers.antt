-- By whether there was an access.
use mathlib.Core.Path.{sym, ap, ◌∙◌}
use native.Mathlib.Omega.{arith}
use lib.ListN.{length}
use Rattle.text.proofs.Wrote.{◌then◌, wrote_nothing}
use Rattle.totals.specs.declared.sums.Sums.{Sums}
use Rattle.totals.specs.Table.{Small, nothing_yet, added, all_of, name_width, count_columns}
use Rattle.totals.proofs.Aligned.{aligned_fits}
use Rattle.totals.proofs.Lines.{no_sums, one_variable, line_none, line_some, counts_fit}
use Rattle.totals.proofs.table.put_variable.Goals as goal

pub returns-then-all-eq0 : goal.returns-then-all-eq0
returns-then-all-eq0 c =
    let e = one_variable c.args.v c.args.t (no_sums c.default.ensures) c.with-s.ensures in
    rw (line_none c.args.v c.args.t (sym (ap all_of e) ∙ sym c.all.ensures ∙ c.if-all-eq0.true)) (wrote_nothing, omega arith)

pub put_aligned-a-requires : goal.put_aligned-a-requires
put_aligned-a-requires c = omega (arith, aligned_fits name_width c.args.v (omega arith) (omega arith))

pub put_counts-requires : goal.put_counts-requires
put_counts-requires c =
    let e = one_variable c.args.v c.args.t (no_sums c.default.ensures) c.with-s.ensures in
    let g = c.well_formed in
    let small : Small (added nothing_yet c.args.t) = record { clear = omega (arith, g); race = omega (arith, g); doubt = omega (arith, g) } in
    rw e (
      omega (
        arith,
        c.requires,
        c.put_aligned-a.ensures.place,
        aligned_fits name_width c.args.v (omega arith) (omega (arith, c.ranges.v)),
        counts_fit (added nothing_yet c.args.t) small,
      ),
      small,
    )

pub returns : goal.returns
returns c =
    let g = c.well_formed in
    let e = one_variable c.args.v c.args.t (no_sums c.default.ensures) c.with-s.ensures in
    let w = c.put_aligned-a.ensures then (rw e at c.put_counts.ensures) in (
      rw (line_some c.args.v c.args.t (λ h. c.if-all-eq0.false (c.all.ensures ∙ ap all_of e ∙ h))) w,
      omega (
        arith,
        g,
        c.put_aligned-a.ensures.place,
        c.put_counts.ensures.place,
        aligned_fits name_width c.args.v (omega arith) (omega (arith, c.ranges.v)),
        ap (λ (r : Sums). length (count_columns r)) e,
        counts_fit (added nothing_yet c.args.t) (record { clear = omega (arith, g); race = omega (arith, g); doubt = omega (arith, g) }),
      ),
    )
