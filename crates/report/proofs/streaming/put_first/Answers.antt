-- What is held and the rest are put together in memory of their own, and answered as a text of one line.
use native.Mathlib.Omega.{arith}
use lib.ListN.{take}
use mathlib.Core.List.{◌++◌}
use Rattle.text.proofs.Held.{length_taken, held_fits, still_fits, first_without, joined_fits, joined_answered}
use Rattle.report.proofs.streaming.put_first.Goals as goal

pub slice_bounds-line-end : goal.slice_bounds-line-end
slice_bounds-line-end c =
    let at-hold = c in
    let at-put-over = at-hold in
    let start = at-put-over in
    held_fits at-put-over.put_over-joined.new.out (take at-put-over.put_over-joined.result at-put-over.put_over-joined.new.out ++ take start.args.e start.args.piece.now) at-hold.hold-end.ensures.0 at-hold.hold-end.ensures.1 (still_fits at-put-over.put_over-joined.ensures (omega arith))

pub slice_bounds-put_lines-end : goal.slice_bounds-put_lines-end
slice_bounds-put_lines-end c =
    let at-hold = c in
    let at-put-over = at-hold in
    let start = at-put-over in
    length_taken _ _ (held_fits at-put-over.put_over-joined.new.out (take at-put-over.put_over-joined.result at-put-over.put_over-joined.new.out ++ take start.args.e start.args.piece.now) at-hold.hold-end.ensures.0 at-hold.hold-end.ensures.1 (still_fits at-put-over.put_over-joined.ensures (omega arith)))

pub put_lines-answered-requires : goal.put_lines-answered-requires
put_lines-answered-requires c =
    let at-hold = c in
    let at-put-over = at-hold in
    let start = at-put-over in
    let (f, some, q, ends) = start.requires in
    joined_fits _ start.args.held.now (take start.args.e start.args.piece.now) some f.short f.holds f.whole (omega arith)
    at-put-over.put_over-joined.ensures at-hold.hold-end.ensures.0 at-hold.hold-end.ensures.1 (first_without start.args.piece.now start.args.e q)
    (omega (arith, f.room, ends)) (omega (arith, f.counted, ends))

pub returns-clause-answered : goal.returns-clause-answered
returns-clause-answered c =
    let at-put-lines = c in
    let at-hold = at-put-lines in
    let at-put-over = at-hold in
    let start = at-put-over in
    let (f, some, q, ends) = start.requires in
    joined_answered _ start.args.held.now (take start.args.e start.args.piece.now) some f.short f.holds f.whole (omega arith)
    at-put-over.put_over-joined.ensures at-hold.hold-end.ensures.0 at-hold.hold-end.ensures.1 (first_without start.args.piece.now start.args.e q)
    at-put-lines.put_lines-answered.ensures.answered
