-- The lines of the text are answered from a fresh state.
use Rattle.text.proofs.Held.{text_said}
use Rattle.report.proofs.entry.write_report.Goals as goal

pub returns : goal.returns
returns c =
    let at-put-lines = c in
    let at-begin = at-put-lines in
    let start = at-begin in
    text_said start.args.text.now at-put-lines.put_lines-answered.ensures.answered.wrote at-begin.begin.ensures.fresh
