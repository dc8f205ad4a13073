-- `reading::scan::place_in`: where the first b stands is the position of the first byte that is b. Assumes nothing.
use mathlib.Core.Path.{◌≡◌, ap, ◌∙◌}
use mathlib.Core.List.{List}
use Prim.Native.Nat.{ℕ, ◌-◌}
use native.Mathlib.Omega.{arith}
use lib.ListN.{length, take, drop, length-drop}
use Rattle.std.specs.Option.{unwrap_or}
use Rattle.text.specs.Bytes.{index_of}
use Rattle.text.proofs.Bytes.{index_fits}
use Rattle.text.proofs.LineForm.{part_from}
use Rattle.reading.proofs.Std.{position_of}
use Rattle.reading.proofs.scan.place_in.Goals as goal

pub returns : goal.returns
returns c =
    let a = c.args in
    let rest : List ℕ = take (length a.text.now - a.from) (drop a.from a.text.now) in
    let q : c.unwrap_or.result ≡ index_of a.b (drop a.from a.text.now) =
    c.unwrap_or.ensures ∙ ap (λ o. unwrap_or o (length rest)) c.position.ensures ∙ position_of a.b rest ∙ ap (index_of a.b) (part_from a.text.now a.from) in
    (omega (arith, q), omega (arith, q, index_fits a.b (drop a.from a.text.now), length-drop a.from a.text.now))
