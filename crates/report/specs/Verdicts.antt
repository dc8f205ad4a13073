-- What is told of an access's verdict, and the line that is made of it. Contracts of functions that write such a line speak of it, and no claim does.
use Rattle.std.specs.Prelude.{◌≡◌, List, ◌++◌, ℕ, ◌≤◌}
use Rattle.text.specs.Printing.{bytes}
use Rattle.text.specs.ReportLines.{access_line}
use Rattle.text.specs.Words.{Opens}
use Rattle.report.specs.declared.telling.VerdictTold.{VerdictTold}

-- the line is that of an access, with a verdict's word of two to five letters
pub record TellsVerdict (line : List ℕ) (task on : ℕ) (j : VerdictTold) : Type 0 where
  pub verdict : List ℕ
  pub opens : Opens (bytes "=" ++ verdict) j.word j.len
  pub least : 3 ≤ j.len
  pub most : j.len ≤ 6
  pub is : line ≡ access_line j.number task on verdict j.partner
