-- What the table has beside the lines of the report: the tasks that could settle a Doubt alone, and how many Doubts each of them could.
use Rattle.std.specs.Prelude.{ℕ, zero, suc, cond, Option, Some, None, List, [], ◌++◌}
use Rattle.theory.specs.order.Limits.{tasks}
use Rattle.theory.specs.fillings.Completion.{bit}
use Rattle.theory.specs.tables.Counters.{raise}
use Rattle.theory.specs.basics.Turns.{turns}
use Rattle.text.specs.Printing.{bytes, decimal}

-- a task of the mask, behind a comma
abbrev pub comma_task : ℕ → ℕ → List ℕ
comma_task mask t = cond (bit mask t) (bytes "," ++ decimal t) []

-- those below a number, lowest first
unfoldable pub named_below : ℕ → ℕ → List ℕ
named_below mask zero = []
named_below mask (suc t) = named_below mask t ++ comma_task mask t

-- The counts, one for each task and behind them that of all Doubts, after a record: a Doubt is counted for itself, and for each task of the mask, which
-- are those that could settle it alone
unfoldable pub tallied : Option ℕ → List ℕ → List ℕ
tallied None l = l
tallied (Some mask) l = turns tasks (λ t l. cond (bit mask t) (raise t l) l) (raise tasks l)
