-- `reading::words::named_kind`: the word after `op=` has its kind by its place. Assumes nothing.
use mathlib.Core.Path.{sym, ◌∙◌}
use Rattle.text.specs.LineForm.{op_name}
use Rattle.text.proofs.LineForm.{is_op, no_op}
use Rattle.reading.proofs.Std.{stripped}
use Rattle.reading.proofs.words.named_kind.Goals as goal

pub returns-in_err-strip_prefix : goal.returns-in_err-strip_prefix
returns-in_err-strip_prefix c = rw c.from_residual.ensures (no_op _ (sym (stripped op_name _) ∙ c.in_err-strip_prefix.ensures.cases))

pub returns : goal.returns
returns c =
    let s = c.args.s.now in
    let after = c.in_ok-strip_prefix.ensures.cases in
    rw (is_op s (sym (stripped op_name s) ∙ after.0), ← after.1) c.kind_of.ensures
