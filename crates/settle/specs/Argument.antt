-- What the program's arguments name: a set of tasks, each by its number, or none.
use Rattle.std.specs.Prelude.{ℕ, ◌^◌, Bool, cond, Option, Some, None, option_and_then, List, ltb}
use Rattle.std.specs.Str.{bytes_eq}
use Rattle.theory.specs.order.Limits.{tasks}
use Rattle.text.specs.LineForm.{read_decimal}
use Rattle.text.specs.Printing.{bytes}

-- the bit of a task, none for what is no task
abbrev pub bit_of : ℕ → Option ℕ
bit_of t = cond (ltb t tasks) (Some (2 ^ t)) None

-- that of the task which a word names, as a decimal of the text form
abbrev pub task_in : List ℕ → Option ℕ
task_in word = option_and_then bit_of (read_decimal word)

-- the word is `none`
abbrev pub says_none : List ℕ → Bool
says_none w = bytes_eq w (bytes "none")
