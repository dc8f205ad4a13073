-- `reading::scan::index_in`: the bytes counted, and those that are yet to be. Assumes nothing.
use native.Mathlib.Omega.{arith}
use Rattle.text.specs.Bytes.{index_of}
use Rattle.text.proofs.Bytes.{count_next, count_all}
use Rattle.reading.proofs.scan.index_in.Goals as goal

pub loop-x-preserved : goal.loop-x-preserved
loop-x-preserved c =
    let a = c.args in
    let v = c.loop-x.invariant in (
      omega (arith, c.still-other.ensures.1, v.0, v.1),
      omega (arith, c.still-other.ensures.1, v.1),
      rw c.still-other.ensures.0 (count_next c.loop-x.other c.loop-x.n (index_of a.b a.part.now) a.b a.part.now c.loop-x.x-index v.1 c.loop-x-test.true v.2),
    )

pub returns : goal.returns
returns c =
    let l = c.loop-x in
    let a = c.args in
    count_all l.other l.n (index_of a.b a.part.now) a.b a.part.now l.x-index l.invariant.1 c.loop-x-test.false l.invariant.2
