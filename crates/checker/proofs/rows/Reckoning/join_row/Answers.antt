-- A row with itself is as it was.
use Rattle.theory.proofs.tables.Rows.{join_self}
use Rattle.checker.proofs.rows.Reckoning.join_row.Goals as goal

pub returns-then-to-from : goal.returns-then-to-from
returns-then-to-from g c = rw (← c.if-to-from.true) (join_self g.met.Self.Reckoning.gathers.alone g.row.WIDTH _ _)
