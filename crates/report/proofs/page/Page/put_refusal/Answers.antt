-- The name, the words and the numbers of a refused line, one after the other.
use native.Mathlib.Omega.{arith}
use Rattle.text.specs.ReportLines.{refused_as}
use Rattle.text.proofs.Lengths.{refused_fits}
use Rattle.report.proofs.Pages.{◌next◌, put_line}
use Rattle.report.proofs.page.Page.put_refusal.Goals as goal

pub returns : goal.returns
unfolding refused_as
returns c =
    put_line
    (c.put_bytes.ensures next c.put_decimal.ensures next c.put_bytes-2.ensures next c.put_decimal-2.ensures next c.put_bytes-3.ensures)
    (refused_fits c.args.name.now c.args.line c.args.number c.requires.1 (omega arith) (omega arith))
