-- One word, where the number has seven digits. Assumes nothing.
use Rattle.text.proofs.Words.{number_bytes}
use Rattle.report.proofs.page.Page.put_number.Goals as goal

pub returns-then-n-lt-TOO_LONG : goal.returns-then-n-lt-TOO_LONG
returns-then-n-lt-TOO_LONG c = rw (← number_bytes _) (rw c.number_word.ensures at c.put_eight.ensures)
