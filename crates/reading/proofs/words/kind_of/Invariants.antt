-- `reading::words::kind_of`: the words before a place are passed. Assumes nothing.
use mathlib.Core.Path.{◌≡◌}
use Prim.Native.Nat.{◌+◌}
use lib.ListN.{drop}
use Rattle.text.specs.LineForm.{words, place_of}
use Rattle.reading.proofs.words.kind_of.Given as goal

abbrev pub invariant-loop-k : goal.invariant-loop-k
invariant-loop-k l = place_of words l.word ≡ l.k + place_of (drop l.k words) l.word
