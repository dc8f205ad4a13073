-- What the program's argument asks.
use Rattle.std.specs.Prelude.{ℕ, ◌%◌, Bool, false, cond, not, ◌&&◌, Option, Some, None, option_and_then, List, eqb, ltb}
use Rattle.text.specs.LineForm.{read_decimal}

-- the number above 0
abbrev pub above0 : ℕ → Option ℕ
above0 n = cond (eqb n 0) None (Some n)

-- after so many accepted records each a table is asked for, as a decimal of the text form; none where the word asks for none
abbrev pub every_of : List ℕ → Option ℕ
every_of word = option_and_then above0 (read_decimal word)

-- a table is due where the count of accepted records has grown, and come to a multiple of the number asked for
abbrev pub table_due : Option ℕ → ℕ → ℕ → Bool
table_due None before count = false
table_due (Some every) before count = not (eqb every 0) && (ltb before count && eqb (count % every) 0)
