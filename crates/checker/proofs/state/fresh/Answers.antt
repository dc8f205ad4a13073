-- Tables of zeros, and task 0 live.
use Rattle.theory.specs.feeding.Step.{fresh_state}
use Rattle.checker.proofs.state.fresh.Goals as goal

pub returns : goal.returns
unfolding fresh_state
returns c = rw c.fresh_control.ensures
