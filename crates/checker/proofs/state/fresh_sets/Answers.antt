-- Tables of zeros, and task 0 live.
use Rattle.theory.specs.feeding.Step.{fresh_sets}
use Rattle.checker.proofs.state.fresh_sets.Goals as goal

pub returns : goal.returns
unfolding fresh_sets
returns c = rw c.fresh_control.ensures
