-- A copy, byte by byte: so far the bytes below i are written.
use Prim.Native.Nat.{◌+◌}
use lib.ListN.{take}
use Rattle.text.specs.Wrote.{Wrote}
use Rattle.report.proofs.page.put_over.Given as goal

abbrev pub invariant-loop-i : goal.invariant-loop-i
invariant-loop-i l = Wrote l.initial.out l.at (take l.i l.bytes) l.out (l.at + l.i)
