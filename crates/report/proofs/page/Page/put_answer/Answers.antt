-- The line by the answer's case; an access has room, since its line has at most 64 bytes.
use Prim.Native.Nat.{◌-◌, ◌≤◌}
use native.Mathlib.Omega.{arith}
use lib.ListN.{length}
use Rattle.text.specs.LineForm.{digits}
use Rattle.text.specs.Printing.{decimal}
use Rattle.text.proofs.Digits.{decimal_fits}
use Rattle.text.proofs.Lengths.{access_line_fits}
use Rattle.report.proofs.Pages.{put_line}
use Rattle.report.proofs.page.Page.put_answer.Goals as goal

pub put_access_line-requires : goal.put_access_line-requires
put_access_line-requires c =
    let s = c.told_answer.ensures c.args.line in
    let t : length (decimal c.args.r.task) ≤ 5 = decimal_fits (digits - 1) c.args.r.task c.requires.1 in
    let v : length (decimal c.args.r.on) ≤ 5 = decimal_fits (digits - 1) c.args.r.on c.requires.2 in
    (omega (arith, c.requires.0, s.most), s.least, omega (arith, s.most))

pub returns-in_default : goal.returns-in_default
returns-in_default c =
    let s = c.told_answer.ensures c.args.line in
    rw s.is (put_line (c.put_access_line.ensures s.verdict s.opens) (access_line_fits _ _ _ _ _ c.requires.1 c.requires.2 (omega (arith, s.opens.long, s.most))))
