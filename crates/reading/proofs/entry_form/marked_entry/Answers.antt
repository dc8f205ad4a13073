-- `reading::entry_form::marked_entry` is the tests of the last word. Assumes nothing.
use mathlib.Core.Path.{◌≡◌, sym, ap, ◌∙◌}
use mathlib.Core.Bool.{Bool, true, false}
use mathlib.Core.List.{List}
use mathlib.Core.Logic.{⊎_elim}
use Prim.Native.Nat.{ℕ}
use lib.Dec.{eqb}
use lib.Pointwise.{pointwise}
use Rattle.text.specs.Bytes.{is_word}
use Rattle.text.specs.EntryForm.{mark_word, marked_entry}
use Rattle.text.proofs.EntryForm.{mark_known}
use Rattle.reading.proofs.Std.{same_word}
use Rattle.reading.proofs.entry_form.marked_entry.Goals as goal

-- the test of a word that is handed on as a part
is_mark : (b : Bool) (s t w : List ℕ) → t ≡ w → b ≡ pointwise eqb s t → b ≡ is_word w s
is_mark b s t w e f = f ∙ ap (pointwise eqb s) e ∙ same_word w s

pub returns-then-accepted : goal.returns-then-accepted
returns-then-accepted c =
    let s = c.args.mark.now in
    let marked_accepted = is_mark _ s _ (mark_word true) c.as_slice.ensures c.eq-accepted.ensures in
    let marked_open = is_mark _ s _ (mark_word false) c.as_slice-2.ensures c.eq-open.ensures in
    c.within_range.ensures ∙ sym (mark_known _ _ _ _ _ c.eq-accepted.result marked_accepted
    (⊎_elim (λ x. rw x) (λ x. rw (x.0, sym marked_open ∙ x.1)) c.then-accepted.either))

pub returns : goal.returns
unfolding marked_entry
returns c =
    let s = c.args.mark.now in
    let marked_accepted : c.eq-accepted.result ≡ is_word (mark_word true) s = is_mark _ s _ (mark_word true) c.as_slice.ensures c.eq-accepted.ensures in
    let marked_open : c.eq-open.result ≡ is_word (mark_word false) s = is_mark _ s _ (mark_word false) c.as_slice-2.ensures c.eq-open.ensures in
    rw (sym marked_accepted ∙ c.if-accepted.false, sym marked_open ∙ c.if-open.false)
