-- Nothing outside the profile; under it a word, a number and LF.
use mathlib.Core.Path.{sym}
use native.Mathlib.Omega.{arith}
use Rattle.text.proofs.Wrote.{◌then◌, wrote_nothing}
use Rattle.totals.specs.Table.{skipped_line}
use Rattle.totals.proofs.Aligned.{aligned_fits}
use Rattle.totals.proofs.table.put_skipped.Goals as goal

pub returns-then-not-is_under : goal.returns-then-not-is_under
unfolding skipped_line
returns-then-not-is_under c = rw (sym c.if-not-is_under.ensures) (wrote_nothing, omega arith)

pub put_aligned-b-requires : goal.put_aligned-b-requires
put_aligned-b-requires c =
    omega (arith, c.requires, c.put_padded-a.ensures.place, c.skipped.type_inv, aligned_fits 0 c.skipped.result (omega arith) (omega (arith, c.skipped.type_inv)))

pub put_padded-requires : goal.put_padded-requires
put_padded-requires c =
    omega (
      arith,
      c.requires,
      c.put_padded-a.ensures.place,
      c.put_aligned-b.ensures.place,
      aligned_fits 0 c.skipped.result (omega arith) (omega (arith, c.skipped.type_inv)),
    )

pub returns : goal.returns
unfolding skipped_line
returns c =
    rw (sym c.if-not-is_under.ensures, ← c.skipped.ensures) (
      c.put_padded-a.ensures then c.put_aligned-b.ensures then c.put_padded.ensures,
      omega (
        arith,
        c.put_padded-a.ensures.place,
        c.put_aligned-b.ensures.place,
        c.put_padded.ensures.place,
        aligned_fits 0 c.skipped.result (omega arith) (omega (arith, c.skipped.type_inv)),
      ),
    )
