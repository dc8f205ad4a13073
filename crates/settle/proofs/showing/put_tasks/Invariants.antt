-- So far the tasks below t are written.
use Rattle.std.proofs.Common.{◌*◌, ◌≤◌}
use Rattle.text.specs.Wrote.{Wrote}
use Rattle.settle.specs.Table.{named_below}
use Rattle.settle.proofs.showing.put_tasks.Given as goal

abbrev pub invariant-loop-t : goal.invariant-loop-t
invariant-loop-t l = (l.to ≤ 3 * l.t) × Wrote l.initial.out 0 (named_below l.mask l.t) l.out l.to
