-- Nothing is held, and all lines that end lie whole in the piece; or the line that has begun is answered, then those that end after it.
use native.Mathlib.Omega.{arith}
use Rattle.text.proofs.Wrote.{as_long}
use Rattle.text.proofs.Held.{short_held, some_lf, first_before, lines_before, none_begun, some_begun}
use Rattle.report.proofs.streaming.put_ended.Goals as goal

pub put_lines-requires : goal.put_lines-requires
put_lines-requires c =
    let (f, last, some) = c.requires in
    lines_before _ 0 last (omega arith) (omega (arith, f.room, last.within)) (omega (arith, f.counted, last.within))

pub returns-then-begun-eq0-clause-answered : goal.returns-then-begun-eq0-clause-answered
returns-then-begun-eq0-clause-answered c =
    let at-if1 = c in
    let (f, last, some) = at-if1.requires in
    rw at-if1.if-begun-eq0.true (none_begun _ _ last c.put_lines.ensures.answered)

pub put_first-at-requires : goal.put_first-at-requires
put_first-at-requires c =
    let at-line-end = c in
    let at-if1 = at-line-end in
    let start = at-if1 in
    let (f, last, some) = start.requires in
    (f, omega (arith, at-if1.if-begun-eq0.false), at-line-end.line_end-e.ensures, some_lf start.args.piece.now at-line-end.line_end-e.ensures last some)

-- the first LF stands in the piece, so that there is a place after it

pub overflow_add-e : goal.overflow_add-e
overflow_add-e c =
    let at-line-end = c in
    let start = at-line-end in
    let (f, last, some) = start.requires in
    omega (arith, f.counted, some_lf start.args.piece.now at-line-end.line_end-e.ensures last some)

pub put_lines-requires-2 : goal.put_lines-requires-2
put_lines-requires-2 c =
    let at-put-first = c in
    let at-line-end = at-put-first in
    let start = at-line-end in
    let (f, last, some) = start.requires in
    let ends = some_lf start.args.piece.now at-line-end.line_end-e.ensures last some in
    let before = first_before start.args.piece.now _ at-line-end.line_end-e.ensures ends last in
    let a = at-put-first.put_first-at.ensures.answered in
    lines_before _ _ last before (omega (arith, f.room, last.within, before, a.room, as_long a.wrote)) (omega (arith, f.counted, last.within, before))

pub returns-clause-answered : goal.returns-clause-answered
returns-clause-answered c =
    let at-put-first = c in
    let at-line-end = at-put-first in
    let start = at-line-end in
    let (f, last, some) = start.requires in
    let ends = some_lf start.args.piece.now at-line-end.line_end-e.ensures last some in
    some_begun _ _ _ _ _ (short_held _ f.short) at-line-end.line_end-e.ensures ends last at-put-first.put_first-at.ensures.answered c.put_lines-2.ensures.answered
