-- `reading::scan::index_in`: the bytes counted, and those that are yet to be. Assumes nothing.
use mathlib.Core.Path.{◌≡◌}
use Prim.Native.Nat.{◌+◌, ◌*◌, ◌≤◌}
use lib.ListN.{drop}
use Rattle.text.specs.Bytes.{index_of}
use Rattle.reading.proofs.scan.index_in.Given as goal

abbrev pub invariant-loop-x : goal.invariant-loop-x
invariant-loop-x l = (l.n ≤ l.x-index) × (l.other ≤ 1) × (index_of l.b l.part ≡ l.n + l.other * index_of l.b (drop l.x-index l.part))
