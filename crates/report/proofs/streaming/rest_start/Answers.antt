-- From the place on there is no LF.
use native.Mathlib.Omega.{arith}
use Rattle.text.proofs.Reporting.{one_before, none_at_end}
use Rattle.report.proofs.streaming.rest_start.Goals as goal

pub loop-i-init : goal.loop-i-init
loop-i-init c = none_at_end c.args.text.now

pub loop-i-preserved : goal.loop-i-preserved
loop-i-preserved c = one_before _ _ c.loop-i-test.true (omega arith) c.if-text-i-eq-LF.false c.loop-i.invariant
