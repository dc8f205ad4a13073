-- `reading::scan::lfs_in`: the LFs counted and those that are left are all of them. Assumes nothing.
use mathlib.Core.Path.{◌≡◌}
use Prim.Native.Nat.{◌+◌, ◌≤◌}
use lib.ListN.{drop}
use Rattle.text.specs.Lines.{lf_count}
use Rattle.reading.proofs.scan.lfs_in.Given as goal

abbrev pub invariant-loop-b : goal.invariant-loop-b
invariant-loop-b l = (l.n ≤ l.b-index) × (l.n + lf_count (drop l.b-index l.part) ≡ lf_count l.part)
