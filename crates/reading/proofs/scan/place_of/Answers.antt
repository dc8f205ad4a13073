-- `reading::scan::place_of`: sixteen bytes without b are passed over, and then eight if they have none. Assumes nothing.
use mathlib.Core.Path.{◌≡◌, sym, ◌∙◌}
use mathlib.Core.Bool.{false}
use mathlib.Core.List.{List}
use Prim.Native.Nat.{ℕ, ◌+◌, ◌-◌, ◌≤◌, ◌<◌}
use native.Mathlib.Omega.{arith}
use lib.Dec.{ltb}
use lib.ListN.{length, take, drop}
use Rattle.std.proofs.Common.{rules}
use borrow.Author.Tests.{le-ltb}
use Rattle.text.specs.Bytes.{index_of}
use Rattle.text.proofs.Bytes.{passed_over, found_in}
use Rattle.text.proofs.Lines.{cut_fits}
use Rattle.reading.proofs.Std.{has_it}
use Rattle.reading.proofs.scan.place_of.Goals as goal

-- the sixteen bytes, and the eight after them
abbrev sixteen : List ℕ → ℕ → List ℕ
sixteen s from = take (from + 16 - from) (drop from s)

abbrev eight : List ℕ → ℕ → List ℕ
eight s from = take (from + 24 - (from + 16)) (drop (from + 16) s)

passed_sixteen : (b : ℕ) (s : List ℕ) (from : ℕ) → from + 24 ≤ length s → ltb (index_of b (sixteen s from)) (length (sixteen s from)) ≡ false
    → from + index_of b (drop from s) ≡ from + 16 + index_of b (drop (from + 16) s)
passed_sixteen b s from h e = passed_over b s from (from + 16) (omega arith) (omega arith) e

found_eight : (b : ℕ) (s : List ℕ) (from : ℕ) → from + 24 ≤ length s → index_of b (eight s from) < 8 → index_of b (drop (from + 16) s) ≡ index_of b (eight s from)
found_eight b s from h l = found_in b s (from + 16) (from + 24) (omega arith) h (omega arith)

passed_eight : (b : ℕ) (s : List ℕ) (from : ℕ) → from + 24 ≤ length s → 8 ≤ index_of b (eight s from)
    → from + 16 + index_of b (drop (from + 16) s) ≡ from + 24 + index_of b (drop (from + 24) s)
passed_eight b s from h l =
    passed_over b s (from + 16) (from + 24) (omega arith) h
    (le-ltb (index_of b (eight s from)) (length (eight s from)) (omega (arith, cut_fits s (from + 16) (from + 24))))

pub returns-then-n-lt8 : goal.returns-then-n-lt8
returns-then-n-lt8 c =
    let a = c.args in
    let l : a.from + 24 ≤ length a.text.now = omega (arith, c.if-text-from-lt24.false, c.requires) in
    let p = passed_sixteen a.b a.text.now a.from l (sym (has_it a.b _) ∙ sym c.contains.ensures.value ∙ c.if-contains.false) in
    let q : index_of a.b (eight a.text.now a.from) < 8 = omega (arith, c.index_in-n.ensures, c.if-n-lt8.true) in
    (omega (arith, p, found_eight a.b a.text.now a.from l q, c.index_in-n.ensures), omega (arith, l, c.if-n-lt8.true))

pub returns : goal.returns
returns c =
    let a = c.args in
    let l : a.from + 24 ≤ length a.text.now = omega (arith, c.if-text-from-lt24.false, c.requires) in
    let p = passed_sixteen a.b a.text.now a.from l (sym (has_it a.b _) ∙ sym c.contains.ensures.value ∙ c.if-contains.false) in
    let q : 8 ≤ index_of a.b (eight a.text.now a.from) = omega (arith, c.index_in-n.ensures, c.if-n-lt8.false) in
    (omega (arith, c.place_in-2.ensures.0, p, passed_eight a.b a.text.now a.from l q), search rules)
