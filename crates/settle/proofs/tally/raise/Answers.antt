-- One count is raised.
use mathlib.Core.Path.{refl}
use Rattle.theory.specs.tables.Counters.{raise}
use Rattle.settle.proofs.tally.raise.Goals as goal

pub returns : goal.returns
unfolding raise
returns c = rw c.one_more.ensures refl
