-- The counts, one after the other, and LF; each has room, since all together have.
use mathlib.Core.Path.{ap}
use Prim.Native.Nat.{ℕ}
use native.Mathlib.Omega.{arith}
use lib.ListN.{length}
use Rattle.text.proofs.Wrote.{◌then◌}
use Rattle.totals.specs.Table.{count_width, right_aligned, count_columns}
use Rattle.totals.proofs.Lines.{length_counts}
use Rattle.totals.proofs.table.put_counts.Goals as goal

pub put_aligned-a-requires : goal.put_aligned-a-requires
put_aligned-a-requires c = omega (arith, length_counts c.args.s)

pub put_aligned-b-requires : goal.put_aligned-b-requires
put_aligned-b-requires c = omega (arith, length_counts c.args.s, c.put_aligned-a.ensures.place)

pub put_aligned-c-requires : goal.put_aligned-c-requires
put_aligned-c-requires c = omega (arith, length_counts c.args.s, c.put_aligned-a.ensures.place, c.put_aligned-b.ensures.place)

pub put_aligned-d-requires : goal.put_aligned-d-requires
put_aligned-d-requires c =
    rw c.all.ensures
    (omega (arith, length_counts c.args.s, c.put_aligned-a.ensures.place, c.put_aligned-b.ensures.place, c.put_aligned-c.ensures.place))

pub put_padded-requires : goal.put_padded-requires
put_padded-requires c =
    omega (
      arith,
      c.requires.0,
      length_counts c.args.s,
      ap (λ (n : ℕ). length (right_aligned count_width n)) c.all.ensures,
      c.put_aligned-a.ensures.place,
      c.put_aligned-b.ensures.place,
      c.put_aligned-c.ensures.place,
      c.put_aligned-d.ensures.place,
    )

pub returns : goal.returns
unfolding count_columns
returns c =
    c.put_aligned-a.ensures then c.put_aligned-b.ensures then c.put_aligned-c.ensures
    then (rw c.all.ensures at c.put_aligned-d.ensures) then c.put_padded.ensures
