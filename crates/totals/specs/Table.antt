-- The table of totals, as bytes: a head, a line for each variable that was accessed, lowest first, and a line with the sums. Five columns,
-- right-aligned: the variable, and how many of its accesses were Clear, Race, Doubt, and any of the three.
use Rattle.std.specs.Prelude.{ℕ, zero, suc, ◌+◌, ◌*◌, ◌-◌, ◌^◌, ◌<◌, max, Bool, cond, List, [], ◌++◌, eqb, length, replicate}
use Rattle.theory.specs.declared.verdict_totals.Totals.{Totals}
use Rattle.theory.specs.order.Limits.{variables}
use Rattle.theory.specs.acceptance.Control.{under_in, skipped_in}
use Rattle.theory.specs.totals.Totals.{totals_in}
use Rattle.text.specs.LineForm.{space}
use Rattle.text.specs.Printing.{bytes, decimal}
use Rattle.totals.specs.declared.sums.Sums.{Sums}

-- Sums

abbrev pub nothing_yet : Sums
nothing_yet = record { clear = 0; race = 0; doubt = 0 }

abbrev pub added : Sums → Totals → Sums
added s t = record { clear = s.clear + t.clear; race = s.race + t.race; doubt = s.doubt + t.doubt }

abbrev pub all_of : Sums → ℕ
all_of s = s.clear + s.race + s.doubt

-- so small that all of them together are a number of 64 bits
pub record Small (s : Sums) : Type 0 where
  pub clear : s.clear < 2 ^ 62
  pub race : s.race < 2 ^ 62
  pub doubt : s.doubt < 2 ^ 62

-- over the variables below v
unfoldable pub sums_below : List ℕ → ℕ → Sums
sums_below control zero = nothing_yet
sums_below control (suc v) = added (sums_below control v) (totals_in control v)

-- Columns

-- the first column has a variable's number, in two digits at most
abbrev pub name_width : ℕ
name_width = 3

-- each other one a count: a space, and seven digits
abbrev pub count_width : ℕ
count_width = 8

-- spaces, and then a text
abbrev pub padded : ℕ → List ℕ → List ℕ
padded spaces s = replicate spaces space ++ s

-- a number at the right end of a column; one that is too long for it has a space before it still
unfoldable pub right_aligned : ℕ → ℕ → List ℕ
right_aligned width n = padded (max 1 (width - length (decimal n))) (decimal n)

-- Lines

-- so much room is enough for one: five numbers, each of 20 digits at most
abbrev pub line : ℕ
line = 128

-- the counts of a line, and LF
unfoldable pub count_columns : Sums → List ℕ
count_columns s = right_aligned count_width s.clear ++ right_aligned count_width s.race ++ right_aligned count_width s.doubt ++ right_aligned count_width (all_of s) ++ bytes "\n"

-- the line of a variable with these totals; none where it was not accessed
unfoldable pub variable_line : ℕ → Totals → List ℕ
variable_line v t = let s = added nothing_yet t in cond (eqb (all_of s) 0) [] (right_aligned name_width v ++ count_columns s)

-- those of the variables below v
unfoldable pub lines_below : List ℕ → ℕ → List ℕ
lines_below control zero = []
lines_below control (suc v) = lines_below control v ++ variable_line v (totals_in control v)

abbrev pub head : List ℕ
head = bytes "var   clear    race   doubt     all\n"

-- the whole table, of what a control table holds
unfoldable pub table_of : List ℕ → List ℕ
table_of control = head ++ lines_below control variables ++ bytes "all" ++ count_columns (sums_below control variables)

-- so much room is enough for one: a line for each variable, its head and its sums
abbrev pub room : ℕ
room = (variables + 2) * line

-- F-13: under the profile of owned semaphores a line says how many takes were skipped
unfoldable pub skipped_line : List ℕ → List ℕ
skipped_line control = cond (under_in control) (bytes "skipped" ++ right_aligned 0 (skipped_in control) ++ bytes "\n") []

-- the table and that line, and as one of several an empty line, so that they can be told apart
unfoldable pub shown_of : Bool → List ℕ → List ℕ
shown_of several control = table_of control ++ skipped_line control ++ cond several (bytes "\n") []
