-- A row overwritten, column by column.
use Prim.Native.Nat.{◌+◌, ◌*◌}
use lib.ListN.{set, get_or}
use Rattle.theory.proofs.basics.Turns.{Turned}
use Rattle.checker.proofs.rows.Reckoning.put_row.Given as goal

abbrev pub invariant-loop-c : goal.invariant-loop-c
invariant-loop-c g l = Turned (λ k x. set x (l.to * g.row.WIDTH + k) (get_or l.row k 0)) l.initial.cells l.c l.cells
