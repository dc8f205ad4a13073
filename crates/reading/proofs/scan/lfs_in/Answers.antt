-- `reading::scan::lfs_in`: the LFs counted and those that are left are all of them. Assumes nothing.
use native.Mathlib.Omega.{arith}
use Rattle.text.proofs.Lines.{lf_at, lf_ended}
use Rattle.reading.proofs.scan.lfs_in.Goals as goal

pub loop-b-preserved : goal.loop-b-preserved
loop-b-preserved c =
    let more = lf_at c.args.part.now c.loop-b.b-index c.loop-b-test.true in
    (omega (arith, c.one_if_lf-n.ensures.1), omega (arith, c.loop-b.invariant.1, more, c.one_if_lf-n.ensures.0))

pub returns : goal.returns
returns c =
    (omega (arith, c.loop-b.invariant.1, lf_ended c.args.part.now c.loop-b.b-index c.loop-b-test.false), omega arith)
