-- The head, the variables' lines and the sums, one after the other.
use native.Mathlib.Omega.{arith}
use Rattle.text.proofs.Wrote.{◌then◌}
use Rattle.totals.specs.Table.{table_of}
use Rattle.totals.proofs.Lines.{counts_fit}
use Rattle.totals.proofs.table.put_table.Goals as goal

pub put_counts-requires : goal.put_counts-requires
put_counts-requires c =
    let said = c.put_variables-b.ensures in
    (omega (arith, c.put_padded-a.ensures.place, said.1, c.put_padded-c.ensures.place, counts_fit c.put_variables-b.result.sums said.3), said.3)

pub returns : goal.returns
unfolding table_of
returns c =
    let said = c.put_variables-b.ensures in (
      c.put_padded-a.ensures then said.0 then c.put_padded-c.ensures then (rw said.2 at c.put_counts.ensures),
      omega (
        arith,
        c.put_padded-a.ensures.place,
        c.put_padded-c.ensures.place,
        c.put_counts.ensures.place,
        counts_fit c.put_variables-b.result.sums said.3,
      ),
    )
