-- `reading::scan::line_at`: the part up to the line's end; from the end of the text on, the empty part. Assumes nothing.
use mathlib.Core.Path.{◌∙◌, ap}
use mathlib.Core.List.{List}
use Prim.Native.Nat.{ℕ}
use lib.ListN.{take}
use Rattle.std.proofs.lemmas.List.{drop_min}
use Rattle.text.specs.Lines.{line_end}
use Rattle.text.specs.Reading.{line_at}
use Rattle.text.proofs.Reading.{line_part}
use Rattle.reading.proofs.scan.line_at.Goals as goal

pub returns : goal.returns
unfolding line_at
returns c =
    let a = c.args in
    line_part a.text.now c.min-at.result c.place_of.result c.place_of.ensures.0 ∙ ap (line_at a.text.now) c.min-at.ensures
    ∙ ap (λ (t : List ℕ). take (line_end t) t) (drop_min a.at a.text.now)
