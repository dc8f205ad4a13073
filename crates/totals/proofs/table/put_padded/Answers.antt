-- Spaces and then a copy, each over a part of the memory.
use mathlib.Core.Path.{◌≡◌, ◌∙◌}
use Prim.Native.Nat.{◌+◌, ◌-◌}
use native.Mathlib.Omega.{arith}
use lib.ListN.{length, replicate, take, drop, length-replicate, length-drop}
use lib.Seq.{length-take-le}
use Rattle.std.proofs.Common.{rules}
use Rattle.text.specs.LineForm.{space}
use Rattle.text.proofs.Wrote.{◌then◌, as_long}
use Rattle.totals.proofs.Aligned.{wrote_part, length_padded}
use Rattle.totals.proofs.table.put_padded.Goals as goal

pub returns : goal.returns
returns c =
    let a = c.args in
    let n : length (replicate a.spaces space) ≡ a.spaces = length-replicate a.spaces space in
    let fits = length_padded a.spaces a.bytes.now in
    let part : length (take (a.at + a.spaces - a.at) (drop a.at a.out.now)) ≡ a.spaces =
    length-take-le (a.at + a.spaces - a.at) (drop a.at a.out.now) (omega (arith, length-drop a.at a.out.now, fits, c.requires)) ∙ omega arith in
    let blank : c.fill.new.self ≡ replicate a.spaces space = rw part at (c.fill.ensures.after (λ y h. search rules)) in
    let first = wrote_part {l = a.out.now} {at = a.at} {k = a.at + a.spaces - a.at} {to = a.at + a.spaces} (replicate a.spaces space) blank
    (omega (arith, n)) (omega (arith, n)) (omega (arith, n, fits, c.requires)) in
    first then wrote_part a.bytes.now c.copy_from_slice.ensures.after (omega arith) (omega arith) (omega (arith, fits, c.requires, as_long first))
