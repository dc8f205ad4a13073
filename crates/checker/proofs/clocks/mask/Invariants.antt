-- The mask of an access, gathered from the lowest task up.
use Prim.Native.Nat.{◌+◌}
use lib.Dec.{ltb}
use lib.ListN.{get_or}
use Rattle.theory.proofs.tables.Bits.{Gathered}
use Rattle.checker.proofs.clocks.mask.Given as goal

abbrev pub invariant-loop-c : goal.invariant-loop-c
invariant-loop-c l = Gathered (λ u. ltb (get_or l.cells (l.row + u) 0) (get_or l.last (l.from + u) 0)) l.c l.x
