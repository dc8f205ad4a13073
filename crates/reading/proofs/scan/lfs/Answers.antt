-- `reading::scan::lfs`: the LFs counted, 64 bytes at a time, and those that are left are all of them. Assumes nothing.
use mathlib.Core.Path.{◌≡◌, ap, ◌∙◌}
use mathlib.Core.List.{List, []}
use Prim.Native.Nat.{ℕ, ◌*◌}
use native.Mathlib.Omega.{arith}
use lib.ListN.{length, get_or, take, drop, length-take}
use Rattle.text.specs.Lines.{lf_count}
use Rattle.reading.proofs.Std.{part_at, lfs_next}
use Rattle.reading.proofs.scan.lfs.Goals as goal

pub loop-part-preserved : goal.loop-part-preserved
loop-part-preserved c =
    let t : List ℕ = c.args.text.now in
    let i : ℕ = c.loop-part.part-index in
    let part : get_or c.as_chunks.result.0.now i [] ≡ take 64 (drop (i * 64) t) =
    ap (λ (ps : List (List ℕ)). get_or ps i []) c.as_chunks.ensures.front ∙ part_at 64 _ i t [] (omega (arith, c.loop-part-test.true, c.as_chunks.ensures.front_len)) in (
      omega (arith, c.from-n.ensures, c.lfs_in.ensures.1, ap length part, length-take 64 (drop (i * 64) t), c.loop-part.invariant.0),
      omega (arith, c.from-n.ensures, c.lfs_in.ensures.0, ap lf_count part, lfs_next t i, c.loop-part.invariant.1),
    )

pub returns : goal.returns
returns c =
    let t : List ℕ = c.args.text.now in
    let q : c.loop-part.part-index ≡ length c.as_chunks.result.0.now = omega arith in
    omega (
      arith,
      c.from.ensures,
      c.lfs_in-2.ensures.0,
      ap lf_count c.as_chunks.ensures.back,
      ap (λ (k : ℕ). lf_count (drop (k * 64) t)) (q ∙ c.as_chunks.ensures.front_len),
      c.loop-part.invariant.1,
    )
