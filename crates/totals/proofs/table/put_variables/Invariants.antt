-- So far the lines of the variables below v are written, and their totals added.
use Rattle.std.proofs.Common.{◌≡◌, ◌+◌, ◌*◌, ◌^◌, ◌≤◌}
use Rattle.text.specs.Wrote.{Wrote}
use Rattle.totals.specs.Table.{line, sums_below, lines_below}
use Rattle.totals.proofs.Lines.{WithinSums}
use Rattle.totals.proofs.table.put_variables.Given as goal

abbrev pub invariant-loop-v : goal.invariant-loop-v
invariant-loop-v l =
    (l.to ≤ l.at + l.v * line) × WithinSums (l.v * 2 ^ 32) l.sums × Wrote l.initial.out l.at (lines_below l.control l.v) l.out l.to
    × (l.sums ≡ sums_below l.control l.v)
