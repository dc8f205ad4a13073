-- `reading::scan::line_count`: each LF ends a line, and a rest after the last LF is one more. Assumes nothing.
use mathlib.Core.Path.{◌≡◌, sym, ◌∙◌}
use Prim.Native.Nat.{◌-◌, ◌<◌}
use native.Mathlib.Omega.{arith}
use lib.ListN.{length, get_or}
use Rattle.std.proofs.Common.{rules}
use Rattle.text.proofs.Lines.{lines_fit, lines_ended, lines_open}
use Rattle.reading.proofs.scan.line_count.Goals as goal

pub returns-in-None : goal.returns-in-None
returns-in-None c = let q : length c.args.text.now ≡ 0 = search rules in omega (arith, lines_fit c.args.text.now)

pub returns-in-Some-eq10 : goal.returns-in-Some-eq10
returns-in-Some-eq10 c =
    let t = c.args.text.now in
    let some : 0 < length t = search rules in
    let last : get_or t (length t - 1) 0 ≡ 10 = search rules in
    c.lfs.ensures ∙ sym (lines_ended t some last)

pub overflow_add-result : goal.overflow_add-result
overflow_add-result c =
    let t = c.args.text.now in
    let some : 0 < length t = search rules in
    let last : get_or t (length t - 1) 0 ≡ c.in-Some.field-0.now = search rules in
    omega (arith, c.lfs-in-Some.ensures, lines_open t some (λ e. c.in-Some.field-0-test.1 (sym last ∙ e)), lines_fit t)

pub returns-in-Some : goal.returns-in-Some
returns-in-Some c =
    let t = c.args.text.now in
    let some : 0 < length t = search rules in
    let last : get_or t (length t - 1) 0 ≡ c.in-Some.field-0.now = search rules in
    omega (arith, c.lfs-in-Some.ensures, lines_open t some (λ e. c.in-Some.field-0-test.1 (sym last ∙ e)))
