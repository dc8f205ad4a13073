-- A row joined with one that stands by itself, column by column.
use native.Mathlib.Omega.{arith}
use Rattle.theory.specs.tables.Rows.{join_with}
use Rattle.theory.proofs.basics.Turns.{no_turn, one_turn, all_turns}
use Rattle.checker.proofs.rows.Reckoning.join_with.Goals as goal

pub loop-c-init : goal.loop-c-init
loop-c-init g c = no_turn

pub loop-c-preserved : goal.loop-c-preserved
loop-c-preserved g c = one_turn c.loop-c.invariant (rw (c.join.ensures, c.place-at.ensures.0))

pub returns : goal.returns
unfolding join_with
returns g c = all_turns g.row.WIDTH c.loop-c.invariant (omega arith) (omega arith)
