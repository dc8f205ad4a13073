-- `reading::entry_form::after_spaces`: what follows the spaces that are left, from a place on, is what is asked for. Assumes nothing.
use mathlib.Core.Path.{◌≡◌, sym, ap, ◌∙◌}
use Prim.Native.Nat.{ℕ, ◌+◌, ◌-◌}
use native.Mathlib.Omega.{arith}
use lib.ListN.{drop}
use Rattle.text.specs.EntryForm.{after_spaces}
use Rattle.text.proofs.LineForm.{part_from}
use Rattle.text.proofs.EntryForm.{spaces_passed, spaces_all}
use Rattle.reading.proofs.entry_form.after_spaces.Goals as goal

pub loop-space-preserved : goal.loop-space-preserved
loop-space-preserved c =
    let l = c.loop-space in
    let left : ℕ = c.args.k - l._space in
    let fewer : left - 1 ≡ c.args.k - (l._space + 1) = omega arith in (
      c.past-at.ensures.1,
      l.invariant.1 ∙ spaces_passed left c.args.line.now l.at c.place_of.result c.past-at.result (omega arith) c.place_of.ensures.0 c.past-at.ensures.0
          ∙ ap (λ (n : ℕ). after_spaces n (drop c.past-at.result c.args.line.now)) fewer,
    )

pub returns : goal.returns
returns c =
    part_from _ c.loop-space.at ∙ sym (c.loop-space.invariant.1 ∙ spaces_all _ _ (omega arith))
