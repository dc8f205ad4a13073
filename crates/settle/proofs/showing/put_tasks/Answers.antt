-- So far the tasks below t are written.
use Rattle.std.proofs.Common.{◌≡◌, rules}
use native.Mathlib.Omega.{arith}
use Rattle.input.proofs.Prefix.{prefix_len_of_le}
use Rattle.theory.specs.order.Limits.{tasks}
use Rattle.text.proofs.Wrote.{◌then◌, wrote_nothing}
use Rattle.settle.specs.Table.{named_below}
use Rattle.settle.proofs.Tasks.{named_next}
use Rattle.settle.proofs.showing.put_tasks.Goals as goal

pub loop-t-init : goal.loop-t-init
unfolding named_below
loop-t-init c = (search rules, wrote_nothing)

pub loop-t-preserved : goal.loop-t-preserved
loop-t-preserved c = (
  omega (arith, c.loop-t.invariant.0, c.put_named-to.ensures.1),
  rw (named_next c.args.mask c.loop-t.t) (c.loop-t.invariant.1 then c.put_named-to.ensures.0),
)

pub returns : goal.returns
returns c =
    let l = c.loop-t in
    let e : l.t ≡ tasks = omega arith in
    (rw e at l.invariant.1, prefix_len_of_le _ _ (omega (arith, l.invariant.0)))
