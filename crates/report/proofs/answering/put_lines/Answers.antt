-- The loop over the lines of a text: what is written and what is left make what was to be said, with a line read ahead.
use mathlib.Core.Path.{◌∙◌, sym}
use native.Mathlib.Omega.{arith}
use Rattle.text.proofs.RoundTrip.{only_sayable}
use Rattle.text.proofs.Reporting.{left_room, left_number, left_said}
use Rattle.checker.proofs.Lent.{same_on}
use Rattle.report.proofs.Ahead.{caught_up, read_ahead, less_ahead}
use Rattle.report.proofs.answering.put_lines.Goals as goal

pub put_held-reached-requires : goal.put_held-reached-requires
put_held-reached-requires c =
    let at-loop = c in
    let start = at-loop in
    let x = at-loop.loop-going.invariant.1 in
    λ e. let h = x.holds e in (
      omega (arith, left_room x.left start.requires.uncut h.within, start.requires.room, at-loop.loop-going.invariant.0),
      omega (arith, left_number x.left start.requires.uncut h.within, start.requires.counted),
      λ r q. only_sayable _ r (sym h.says ∙ q),
    )

pub loop-going-smaller : goal.loop-going-smaller
loop-going-smaller c =
    let at_read = c in
    let in-loop = at_read in
    let start = in-loop in
    less_ahead _ _ _ _ _ start.requires.uncut in-loop.loop-going-test.true at_read.read_record-next.ensures.1

pub loop-going-preserved : goal.loop-going-preserved
loop-going-preserved c =
    let at-put = c in
    let at_read = at-put in
    let in-loop = at_read in
    let at-loop = in-loop in
    let start = at-loop in
    let (said, next) = at_read.read_record-next.ensures in (
      at-put.put_held-reached.auto.out ∙ at-loop.loop-going.invariant.0,
      read_ahead (caught_up start.requires.uncut in-loop.loop-going-test.true at-loop.loop-going.invariant.1 at-put.put_held-reached.ensures.answered) said next,
      same_on at-loop.loop-going.invariant.2 at-put.put_held-reached.ensures.same,
    )

pub returns-clause-answered : goal.returns-clause-answered
returns-clause-answered c = let x = c.loop-going.invariant.1 in left_said x.left (x.over c.loop-going-test.false)
