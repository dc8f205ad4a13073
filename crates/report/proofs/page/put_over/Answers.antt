-- A copy, byte by byte: so far the bytes below i are written.
use Rattle.text.proofs.Wrote.{one_more_byte}
use Rattle.report.proofs.page.put_over.Goals as goal

pub loop-i-preserved : goal.loop-i-preserved
loop-i-preserved c = one_more_byte _ c.loop-i-test.true c.loop-i.invariant
