-- What was put on a page, one after the other. Assumes nothing.
use mathlib.Core.Path.{◌∙◌}
use mathlib.Core.List.{List, ◌++◌}
use Prim.Native.Nat.{ℕ, ◌^◌, ◌≤◌, ◌<◌}
use native.Mathlib.Omega.{arith}
use lib.ListN.{length}
use Rattle.text.specs.Lines.{line_room}
use Rattle.text.specs.Printing.{decimal}
use Rattle.text.proofs.Digits.{decimal_fits}
use Rattle.text.proofs.Wrote.{◌then◌}
use Rattle.report.specs.declared.page.Page.{Page}
use Rattle.report.specs.Pages.{Put, PutLine}

infixl 40 ◌next◌
-- one put, and another from where it ended
pub ◌next◌ : {p q r : Page} {a b : List ℕ} → Put p a q → Put q b r → Put p (a ++ b) r
◌next◌ v w = record { same = w.same ∙ v.same; long = w.long ∙ v.long; wrote = v.wrote then w.wrote }

-- no more was put than there is room for in a line
pub put_line : {p q : Page} {bs : List ℕ} → Put p bs q → length bs ≤ line_room → PutLine p bs q
put_line v h = record { put = v; room = omega (arith, v.wrote.place) }

-- a line number has at most 20 digits
pub fits_line : (n : ℕ) → n < 2 ^ 64 → length (decimal n) ≤ 20
fits_line n h = decimal_fits 19 n (omega arith)

-- and a refusal's number at most 10
pub fits_refusal : (n : ℕ) → n < 2 ^ 32 → length (decimal n) ≤ 10
fits_refusal n h = decimal_fits 9 n (omega arith)
