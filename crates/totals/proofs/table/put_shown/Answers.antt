-- The table and the line of skipped takes, and LF where one is asked for.
use native.Mathlib.Omega.{arith}
use Rattle.input.proofs.Prefix.{prefix_len_of_le}
use Rattle.text.proofs.Wrote.{◌then◌, wrote_nothing}
use Rattle.totals.specs.Table.{shown_of}
use Rattle.totals.proofs.table.put_shown.Goals as goal

pub returns-then-not-several : goal.returns-then-not-several
unfolding shown_of
returns-then-not-several c = (
  rw c.if-not-several.true (c.put_table-table.ensures.0 then c.put_skipped-n.ensures.0 then wrote_nothing),
  prefix_len_of_le _ _ (omega (arith, c.put_table-table.ensures.1, c.put_skipped-n.ensures.1)),
)

pub returns : goal.returns
unfolding shown_of
returns c = (
  rw c.if-not-several.false (c.put_table-table.ensures.0 then c.put_skipped-n.ensures.0 then c.put_padded.ensures),
  prefix_len_of_le _ _ (omega (arith, c.put_table-table.ensures.1, c.put_skipped-n.ensures.1, c.put_padded.ensures.place)),
)
