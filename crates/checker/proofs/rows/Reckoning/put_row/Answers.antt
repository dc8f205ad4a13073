-- A row overwritten, column by column.
use native.Mathlib.Omega.{arith}
use Rattle.theory.specs.tables.Rows.{put_row}
use Rattle.theory.proofs.basics.Turns.{no_turn, one_turn, all_turns}
use Rattle.checker.proofs.rows.Reckoning.put_row.Goals as goal

pub loop-c-init : goal.loop-c-init
loop-c-init g c = no_turn

pub loop-c-preserved : goal.loop-c-preserved
loop-c-preserved g c = one_turn c.loop-c.invariant (rw c.place.ensures.0)

pub returns : goal.returns
unfolding put_row
returns g c = all_turns g.row.WIDTH c.loop-c.invariant (omega arith) (omega arith)
