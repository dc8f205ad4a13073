-- A row by itself with another row of a table, column by column.
use native.Mathlib.Omega.{arith}
use Rattle.theory.specs.tables.Rows.{acquired_with}
use Rattle.theory.proofs.basics.Turns.{no_turn, one_turn, all_turns}
use Rattle.checker.proofs.marks.Marking.acquired_with.Goals as goal

pub loop-c-init : goal.loop-c-init
loop-c-init g c = no_turn

pub loop-c-preserved : goal.loop-c-preserved
loop-c-preserved g c = one_turn c.loop-c.invariant (rw (c.join.ensures, c.place.ensures.0))

pub returns : goal.returns
unfolding acquired_with
returns g c = all_turns g.row.WIDTH c.loop-c.invariant (omega arith) (omega arith)
