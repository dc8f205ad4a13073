-- Both pairs, and the count.
use Rattle.requests.specs.entries.Table.{entered}
use Rattle.checker.proofs.entries.enter_pair.Goals as goal

pub returns : goal.returns
unfolding entered
returns c = rw (c.pair-2.ensures, c.pair.ensures)
