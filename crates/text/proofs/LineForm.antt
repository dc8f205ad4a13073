-- Words, fields and lines. Assumes nothing.
use mathlib.Core.Path.{◌≡◌, refl, sym, ap, ◌∙◌}
use mathlib.Core.Bool.{true, false}
use mathlib.Core.List.{List, [], ◌∷◌}
use Prim.Native.Nat.{ℕ, suc, ◌+◌, ◌-◌, ◌≤◌, ◌<◌}
use native.Mathlib.Nat.{add-zero}
use native.Mathlib.Numerals.{add-one}
use native.Mathlib.Omega.{arith}
use lib.ListN.{length, get_or, take, drop, drop_of_length-le, length-drop}
use lib.Seq.{drop-cons, take_all}
use borrow.Author.Tests.{lt-ltb, le-ltb, ne_eqb}
use Rattle.std.specs.Prelude.{Option, Some, None}
use Rattle.theory.specs.order.Recording.{loss_mark}
use Rattle.text.specs.Bytes.{index_of, up_to, after, starts_with, is_word}
use Rattle.text.specs.LineForm.{words, op_name, task_name, on_name, space, place_of, named_kind, field_by, field_of, parse_act, parse_mark, rest_of, parse_of}

-- Words

word_here : (w : List ℕ) (ws : List (List ℕ)) (s : List ℕ) → is_word w s ≡ true → place_of (w ∷ ws) s ≡ 0
unfolding place_of
word_here w ws s e = rw e

word_later : (w : List ℕ) (ws : List (List ℕ)) (s : List ℕ) → is_word w s ≡ false → place_of (w ∷ ws) s ≡ suc (place_of ws s)
unfolding place_of
word_later w ws s e = rw e

no_word : (s : List ℕ) → place_of [] s ≡ 0
unfolding place_of
no_word s = refl

-- the words before place k are passed: the next one is passed too, or it is the one, or there is none
module _ (ws : List (List ℕ)) (s : List ℕ) (k : ℕ) (h : place_of ws s ≡ k + place_of (drop k ws) s) where
  pub word_passed : k < length ws → is_word (get_or ws k []) s ≡ false → place_of ws s ≡ (k + 1) + place_of (drop (k + 1) ws) s
  word_passed l e =
      rw (add-one k) (h ∙ ap (λ (vs : List (List ℕ)). k + place_of vs s) (drop-cons ws k [] l)
      ∙ ap (λ (n : ℕ). k + n) (word_later (get_or ws k []) (drop (suc k) ws) s e) ∙ omega arith)

  pub word_found : k < length ws → is_word (get_or ws k []) s ≡ true → k ≡ place_of ws s
  word_found l e =
      sym (h ∙ ap (λ (vs : List (List ℕ)). k + place_of vs s) (drop-cons ws k [] l)
      ∙ ap (λ (n : ℕ). k + n) (word_here (get_or ws k []) (drop (suc k) ws) s e) ∙ add-zero k)

  pub words_ended : length ws ≤ k → k ≡ place_of ws s
  words_ended l =
      sym (h ∙ ap (λ (vs : List (List ℕ)). k + place_of vs s) (drop_of_length-le ws l) ∙ ap (λ (n : ℕ). k + n) (no_word s) ∙ add-zero k)

pub is_op : (s : List ℕ) → starts_with op_name s ≡ true → named_kind s ≡ place_of words (drop 3 s)
unfolding named_kind
is_op s e = rw e

pub no_op : (s : List ℕ) → starts_with op_name s ≡ false → named_kind s ≡ length words
unfolding named_kind
no_op s e = rw e

-- Fields

module _ (read : List ℕ → Option ℕ) (name s : List ℕ) where
  pub named : starts_with name s ≡ true → field_by read name s ≡ read (drop (length name) s)
  named e = rw e

  pub unnamed : starts_with name s ≡ false → field_by read name s ≡ None
  unnamed e = rw e

-- Parts: what the code hands on from a place p of s to its end is what stands from there on

pub part_from : (s : List ℕ) (p : ℕ) → take (length s - p) (drop p s) ≡ drop p s
part_from s p = take_all (length s - p) (drop p s) (rw (length-drop p s) (omega arith))

-- a line cut at its first space, at e, and what follows from p on
module _ (s : List ℕ) (e p : ℕ) (cut : e ≡ 0 + index_of space s) where
  pub cut_before : take e s ≡ up_to space s
  cut_before = let q : e ≡ index_of space s = omega arith in rw q

  pub cut_after : drop p s ≡ drop (suc e) s → take (length s - p) (drop p s) ≡ after space s
  cut_after h = let q : e ≡ index_of space s = omega arith in part_from s p ∙ h ∙ ap (λ (k : ℕ). drop (suc k) s) q

  pub act_no_task : (k : ℕ) → field_of task_name (take e s) ≡ None → parse_act k s ≡ None
  unfolding parse_act
  act_no_task k f = rw (← cut_before, f)

  module _ (next : drop p s ≡ drop (suc e) s) where
    pub act_no_on : (k t : ℕ) → field_of task_name (take e s) ≡ Some t → field_of on_name (take (length s - p) (drop p s)) ≡ None
        → parse_act k s ≡ None
    unfolding parse_act
    act_no_on k t f g = rw (← cut_before, ← cut_after next, f, g)

    pub act_whole : (k t n : ℕ) → field_of task_name (take e s) ≡ Some t → field_of on_name (take (length s - p) (drop p s)) ≡ Some n
        → parse_act k s ≡ Some (record { kind = k; task = t; on = n })
    unfolding parse_act
    act_whole k t n f g = rw (← cut_before, ← cut_after next, f, g)

    pub parsed_by : (k : ℕ) → k ≡ named_kind (take e s) → parse_of s ≡ rest_of k (take (length s - p) (drop p s))
    unfolding parse_of
    parsed_by k h = rw (← cut_before, ← cut_after next, h)

-- What follows the op

module _ (k : ℕ) (s : List ℕ) where
  pub rest_act : k < length words → (k ≡ loss_mark → ⊥) → rest_of k s ≡ parse_act k s
  rest_act h d = rw (lt-ltb k (length words) h, ne_eqb k loss_mark d)

  pub rest_mark : k ≡ loss_mark → rest_of k s ≡ parse_mark s
  rest_mark h = rw h

  pub rest_none : length words ≤ k → rest_of k s ≡ None
  rest_none h = rw (le-ltb k (length words) h)
