-- The total that the two tests name, and the Races' where it is one.
use mathlib.Core.Path.{◌≡◌, ◌∙◌, ap}
use mathlib.Core.Bool.{Bool, true, false, cond}
use Prim.Native.Nat.{ℕ, ◌+◌, ◌-◌, ◌^◌, ◌<◌, min}
use mir.Val.{bool_byte}
use native.Mathlib.Omega.{arith}
use lib.ListN.{get_or}
use borrow.Author.Tests.{lt-ltb}
use Rattle.theory.specs.tables.Counters.{raise, one_more}
use Rattle.theory.specs.totals.Totals.{control_cells, races_at}
use Rattle.theory.proofs.totals.Counted.{totals_from, counts_at, counted_by}
use Rattle.std.proofs.Common.{rules}
use Rattle.checker.proofs.totals.total.Goals as goal

-- a Race is one more, by the bit that says so
counted : (b : Bool) (n : ℕ) → n < 2 ^ 32 → min (n + bool_byte b) (2 ^ 32 - 1) ≡ cond b (one_more n) n
counted true n h = search rules
counted false n h = omega arith

pub returns : goal.returns
returns c =
    let a = c.args in
    let place : c.picked-place.result ≡ totals_from a.race a.doubt = rw c.picked.ensures at c.picked-place.ensures in
    let (at, within) = counts_at a.race a.doubt place c.requires in
    let raised = rw (lt-ltb _ control_cells within) at c.raise.ensures in
    let races = c.saturating_add.ensures ∙ counted a.race (get_or c.raise.new.control races_at 0) (omega arith) in
    rw races (counted_by a.race a.doubt a.v.0 a.control.now (raised ∙ ap (λ i. raise i a.control.now) at))
