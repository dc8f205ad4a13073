-- `reading::scan::place_after`: a sum that is too large is more than the text has. Assumes nothing.
use Rattle.reading.proofs.scan.place_after.Goals as goal
use native.Mathlib.Omega.{arith}
use Rattle.text.specs.Reading.{place_after}

pub returns : goal.returns
unfolding place_after
returns c = omega arith
