-- `reading::decimal::read_digits`: the number so far and the bytes that are left say what the whole says. Assumes nothing.
use mathlib.Core.Path.{◌≡◌}
use Prim.Native.Nat.{◌^◌, ◌<◌}
use lib.ListN.{drop}
use Rattle.text.specs.LineForm.{read_digits}
use Rattle.reading.proofs.decimal.read_digits.Given as goal

abbrev pub invariant-loop-b : goal.invariant-loop-b
invariant-loop-b l = (l.v < 10 ^ l.b-index) × (read_digits 0 l.s ≡ read_digits l.v (drop l.b-index l.s))
