-- The task of a line by four bytes: what holds of each of the sixteen endings is tried out. Assumes nothing.
use mathlib.Core.Path.{◌≡◌, refl, sym, ap, subst, ◌∙◌}
use mathlib.Core.Bool.{cond}
use mathlib.Core.List.{List, ◌∷◌, ◌++◌}
use Prim.Native.Nat.{ℕ, ◌+◌, ◌*◌, ◌-◌, ◌≤◌, ◌<◌}
use native.Mathlib.Omega.{arith}
use lib.Dec.{eqb, ltb}
use lib.ListN.{length, take, drop, take-append-drop}
use borrow.Author.Tests.{eqb-true}
use Rattle.theory.specs.basics.Turns.{turns}
use Rattle.theory.specs.order.Limits.{tasks}
use Rattle.text.specs.Bytes.{starts_with, is_word, little}
use Rattle.text.specs.LineForm.{task_name, space}
use Rattle.text.specs.Places.{StandsAt, FieldAt, task_ending}
use Rattle.text.specs.Printing.{last_digits, width_in, width, decimal}
use Rattle.text.proofs.Bytes.{Below, all_below, all_below_lem, is_the_word}
use Rattle.text.proofs.Places.{says_both, says_first, says_little}
use Rattle.text.proofs.RoundTrip.{each_below}

abbrev name : List ℕ
name = space ∷ task_name

module _ (n : ℕ) (h : n < tasks) where
  ending_below : Below 256 (task_ending n)
  unfolding turns all_below decimal last_digits width width_in
  ending_below = all_below_lem 256 (task_ending n) (omega arith) (each_below tasks (λ n. all_below 256 (task_ending n)) refl n h)

  ending_long : length (task_ending n) ≡ 4
  unfolding turns decimal last_digits width width_in
  ending_long = eqb-true _ _ (each_below tasks (λ n. eqb (length (task_ending n)) 4) refl n h)

  -- as one number
  pub ending_number : cond (ltb n 10) (540032363 + n * 65536) (808533355 + (n - 10) * 16777216) ≡ little (task_ending n)
  unfolding turns little decimal last_digits width width_in
  ending_number = eqb-true _ _ (each_below tasks (λ n. eqb (cond (ltb n 10) (540032363 + n * 65536) (808533355 + (n - 10) * 16777216)) (little (task_ending n))) refl n h)

  pub task_digits : cond (ltb n 10) 1 2 ≡ length (decimal n)
  unfolding turns decimal last_digits width width_in
  task_digits = eqb-true _ _ (each_below tasks (λ n. eqb (cond (ltb n 10) 1 2) (length (decimal n))) refl n h)

  name_first : take (length (name ++ decimal n)) (take 4 name ++ task_ending n) ≡ name ++ decimal n
  unfolding turns is_word starts_with decimal last_digits width width_in
  name_first = is_the_word _ _ (each_below tasks (λ n. is_word (name ++ decimal n) (take (length (name ++ decimal n)) (take 4 name ++ task_ending n))) refl n h)

  -- ` task=T` by its first four bytes and the next four
  pub says_task : (s : List ℕ) (at : ℕ) → at + 8 ≤ length s → Below 256 s → StandsAt s at (take 4 name) → little (take 4 (drop (at + 4) s)) ≡ little (task_ending n)
      → FieldAt s at name n (6 + length (decimal n))
  says_task s at l b k e =
      let w : List ℕ = name ++ decimal n in
      let o : List ℕ = take 4 name ++ task_ending n in
      let q : w ++ drop (length w) o ≡ o = ap (λ (t : List ℕ). t ++ drop (length w) o) (sym name_first) ∙ take-append-drop (length w) o in
      let after : StandsAt s (at + 4) (task_ending n) =
      says_little s (at + 4) (task_ending n) (omega (arith, ending_long)) b ending_below (ap (λ (i : ℕ). little (take i (drop (at + 4) s))) ending_long ∙ e) in
      record {
        says = says_first s at w (drop (length w) o) (subst (StandsAt s at) (sym q) (says_both s at (at + 4) (take 4 name) (task_ending n) refl k after));
        long = omega arith;
        short = omega arith;
      }
