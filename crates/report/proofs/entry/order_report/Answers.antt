-- Row 11: where the memory has too little room for the lines, the number and the memory are what the row says.
use Rattle.std.specs.Prelude.{◌≡◌, ◌/◌, true, length, ltb}
use borrow.Author.Tests.{lt-ltb}
use Rattle.text.specs.Lines.{line_room, lines_of}
use Rattle.report.proofs.entry.order_report.Goals as goal

pub returns-then-report-line_count : goal.returns-then-report-line_count
returns-then-report-line_count c =
    let start = c in
    let small : ltb (length start.args.report.now / line_room) (length (lines_of start.args.text.now)) ≡ true = lt-ltb _ _ (rw c.line_count.ensures at c.if-report-line_count.true) in
    (rw small, rw small)
