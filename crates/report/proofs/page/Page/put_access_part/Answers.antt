-- The words and numbers of an access, one after the other.
use Rattle.text.specs.ReportLines.{access_part}
use Rattle.report.proofs.Pages.{◌next◌}
use Rattle.report.proofs.page.Page.put_access_part.Goals as goal

pub returns : goal.returns
unfolding access_part
returns c =
    c.put_bytes.ensures next c.put_number.ensures next c.put_bytes-2.ensures next c.put_decimal.ensures next c.put_bytes-3.ensures
    next c.put_decimal-2.ensures
