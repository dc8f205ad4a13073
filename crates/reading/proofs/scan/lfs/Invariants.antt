-- `reading::scan::lfs`: the LFs counted, 64 bytes at a time, and those that are left are all of them. Assumes nothing.
use mathlib.Core.Path.{◌≡◌}
use Prim.Native.Nat.{◌+◌, ◌*◌, ◌≤◌}
use lib.ListN.{drop}
use Rattle.text.specs.Lines.{lf_count}
use Rattle.reading.proofs.scan.lfs.Given as goal

abbrev pub invariant-loop-part : goal.invariant-loop-part
invariant-loop-part l = (l.n ≤ l.part-index * 64) × (l.n + lf_count (drop (l.part-index * 64) l.text) ≡ lf_count l.text)
