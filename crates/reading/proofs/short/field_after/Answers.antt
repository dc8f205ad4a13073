-- `reading::short::field_after`: the digits that are read are those of the number. Assumes nothing.
use mathlib.Core.Path.{sym, ◌∙◌}
use Prim.Native.Nat.{ℕ, ◌+◌, ◌-◌}
use native.Mathlib.Omega.{arith}
use Rattle.text.proofs.Places.{field_stands}
use Rattle.reading.proofs.short.field_after.Goals as goal

pub returns : goal.returns
returns c =
    let n = c.one_or_two-n in
    let d : ℕ = c.args.p + c.args.name in (
      omega (arith, n.ensures.1),
      field_stands c.args.s.now c.args.p c.args.name n.result (d + n.result - d) _ (omega arith) (omega (arith, n.ensures.1, c.requires))
          (sym c.read_short.ensures ∙ c.in_ok-value.was),
    )
