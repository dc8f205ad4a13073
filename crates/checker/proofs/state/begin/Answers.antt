-- Tables of zeros, and task 0 live.
use Rattle.theory.specs.feeding.Step.{fresh_state}
use Rattle.checker.proofs.state.begin.Goals as goal

pub returns-clause-fresh : goal.returns-clause-fresh
unfolding fresh_state
returns-clause-fresh c = rw c.fresh_control-tables.ensures
