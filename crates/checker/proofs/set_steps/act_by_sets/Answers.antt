-- It takes no slots, and passes order on.
use mathlib.Core.Path.{◌≡◌, sym, ap, ◌∙◌}
use mathlib.Core.Bool.{true, false}
use mathlib.Core.List.{List}
use Prim.Native.Nat.{ℕ}
use borrow.Author.Tests.{ne_eqb}
use Rattle.theory.specs.order.Recording.{accesses}
use Rattle.theory.specs.tables.Rows.{note_acted}
use Rattle.theory.specs.tables.Reckonings.{slot_words, add_slot, clear_slot, set_own}
use Rattle.theory.proofs.history.Accesses.{kept_nowhere}
use Rattle.theory.proofs.tables.Rows.{same_or}
use Rattle.theory.proofs.tables.Onward.{passed_on}
use Rattle.checker.proofs.set_steps.act_by_sets.Goals as goal

noted : (k t n : ℕ) (b : List ℕ) {x : List ℕ} → accesses k ≡ false → x ≡ note_acted slot_words t b → x ≡ set_own k t n b
noted k t n b h e = e ∙ ap (note_acted slot_words t) (sym (kept_nowhere (λ s b. add_slot t s (clear_slot s b)) k n t b h))

pub returns : goal.returns
returns c =
    let a = c.args in
    let k = a.kind in
    let t = a.task.0 in
    let (f, n, h) = c.requires in (
      simp (ne_eqb _ _ n) (passed_on same_or slot_words false k t a.on (set_own k t a.on a.sets.now) (noted k t a.on a.sets.now h c.note_acted.ensures) c.pass_on.ensures),
      simp (ne_eqb _ _ n) (passed_on same_or slot_words true k t a.on (set_own k t a.on a.fullsets.now) (noted k t a.on a.fullsets.now h c.note_acted-2.ensures) c.pass_on-2.ensures),
    )
