-- The op of a line by its first eight bytes, and where it ends. Assumes nothing.
use mathlib.Core.Path.{◌≡◌, refl, sym, ap, ap₂, subst, ◌∙◌}
use mathlib.Core.List.{List, [], ◌++◌, map}
use Prim.Native.Nat.{ℕ, ◌+◌, ◌-◌, ◌≤◌, ◌<◌}
use native.Mathlib.Omega.{arith}
use lib.ListN.{length, get_or, take, drop, take-append-drop}
use lib.Seq.{length-take-le, take-append-le}
use borrow.Author.Tests.{leb-true, eqb-true}
use lib.Dec.{leb, eqb}
use Rattle.std.proofs.lemmas.List.{get_or-map}
use Rattle.std.specs.Prelude.{None}
use Rattle.theory.specs.basics.Turns.{turns}
use Rattle.text.specs.Bytes.{index_of, up_to, after, starts_with, is_word, little}
use Rattle.text.specs.LineForm.{words, op_name, word_of, space, named_kind, rest_of, parse_of}
use Rattle.text.specs.Places.{StandsAt, opening, kind_opening, op_bytes}
use Rattle.text.proofs.Bytes.{index_fits, index_front, is_the_word, Below, all_below, all_below_lem}
use Rattle.text.proofs.LineForm.{rest_none}
use Rattle.text.proofs.Places.{says_split, says_first, says_little}
use Rattle.text.proofs.RoundTrip.{each_word, op_kind, op_is}

-- The openings of the kinds

module _ (k : ℕ) (h : k < length words) where
  opening_below : Below 256 (kind_opening k)
  unfolding turns all_below
  opening_below = all_below_lem 256 (kind_opening k) (omega arith) (each_word (λ k. all_below 256 (kind_opening k)) refl k h)

  opening_long : length (kind_opening k) ≡ 8
  unfolding turns
  opening_long = eqb-true _ _ (each_word (λ k. eqb (length (kind_opening k)) 8) refl k h)

  -- and so in the table
  pub opening_room : length (get_or (map opening words) k []) ≡ 8
  opening_room = ap length (get_or-map opening words k [] [] h) ∙ opening_long

  opening_op : take (length (op_name ++ word_of k)) (kind_opening k) ≡ op_name ++ word_of k
  unfolding turns is_word starts_with
  opening_op = is_the_word _ _ (each_word (λ k. is_word (op_name ++ word_of k) (take (length (op_name ++ word_of k)) (kind_opening k))) refl k h)

  pub op_long : length (op_name ++ word_of k) ≤ 8
  unfolding turns
  op_long = leb-true _ _ (each_word (λ k. leb (length (op_name ++ word_of k)) 8) refl k h)

  pub op_bytes_lem : op_bytes (kind_opening k) ≡ length (op_name ++ word_of k)
  unfolding turns
  op_bytes_lem = eqb-true _ _ (each_word (λ k. eqb (op_bytes (kind_opening k)) (length (op_name ++ word_of k))) refl k h)

  -- the op ends at their first space, or with them
  opening_ends : index_of space (kind_opening k) ≡ length (op_name ++ word_of k)
  unfolding turns index_of
  opening_ends = eqb-true _ _ (each_word (λ k. eqb (index_of space (kind_opening k)) (length (op_name ++ word_of k))) refl k h)

  -- and without `op=` the word
  opening_rest : take (length (op_name ++ word_of k) - 3) (drop 3 (kind_opening k)) ≡ word_of k
  unfolding turns is_word starts_with
  opening_rest = is_the_word _ _ (each_word (λ k. is_word (word_of k) (take (length (op_name ++ word_of k) - 3) (drop 3 (kind_opening k)))) refl k h)

  pub opening_word : (e : ℕ) → e ≡ op_bytes (get_or (map opening words) k []) → take (e - 3) (drop 3 (get_or (map opening words) k [])) ≡ word_of k
  opening_word e q =
      ap₂ (λ (n : ℕ) (o : List ℕ). take (n - 3) (drop 3 o)) (q ∙ ap op_bytes (get_or-map opening words k [] [] h) ∙ op_bytes_lem) (get_or-map opening words k [] [] h) ∙ opening_rest

-- The op

-- eight bytes that are those of a kind
module _ (s : List ℕ) (at k : ℕ) (h : k < length words) (b : Below 256 s) (l : at + 8 ≤ length s) (e : little (take 8 (drop at s)) ≡ little (kind_opening k)) where
  says_opening : StandsAt s at (kind_opening k)
  says_opening =
      let n : length (kind_opening k) ≡ 8 = opening_long k h in
      says_little s at (kind_opening k) (omega arith) b (opening_below k h) (ap (λ (i : ℕ). little (take i (drop at s))) n ∙ e)

  pub says_op : StandsAt s at (op_name ++ word_of k)
  says_op =
      let w : List ℕ = op_name ++ word_of k in
      let o : List ℕ = kind_opening k in
      let q : w ++ drop (length w) o ≡ o = ap (λ (t : List ℕ). t ++ drop (length w) o) (sym (opening_op k h)) ∙ take-append-drop (length w) o in
      says_first s at w (drop (length w) o) (subst (StandsAt s at) (sym q) says_opening)

-- a line that begins with those of a kind names it, where the space after the op is one of them
pub opens_kind : (s : List ℕ) (k : ℕ) → k < length words → Below 256 s → 8 ≤ length s → little (take 8 s) ≡ little (kind_opening k) → op_bytes (kind_opening k) < 8
    → named_kind (up_to space s) ≡ k
opens_kind s k h b l e m =
    let o : List ℕ = kind_opening k in
    let n : ℕ = length (op_name ++ word_of k) in
    let r : List ℕ = drop (0 + length o) s in
    let i : index_of space o ≡ n = opening_ends k h in
    let f : n ≤ length o = omega (arith, op_long k h, opening_long k h) in
    let g : index_of space o < length o = omega (arith, op_bytes_lem k h, opening_long k h) in
    ap (λ (t : List ℕ). named_kind (up_to space t)) (says_split (says_opening s 0 k h b l e))
    ∙ ap (λ (j : ℕ). named_kind (take j (o ++ r))) (index_front space o r g ∙ i)
    ∙ ap named_kind (take-append-le n o r f ∙ opening_op k h)
    ∙ op_kind k h

-- an op of a kind ends at the first space
pub op_ends : (s : List ℕ) (k : ℕ) → k ≡ named_kind (up_to space s) → k < length words → length (op_name ++ word_of k) ≡ 0 + index_of space s
op_ends s k e h =
    let q : up_to space s ≡ op_name ++ word_of k = rw e (op_is (up_to space s) (subst (λ (j : ℕ). j < length words) e h)) in
    omega (arith, ap length q, length-take-le (index_of space s) s (index_fits space s))

pub no_op_read : (s : List ℕ) (k : ℕ) → k ≡ named_kind (up_to space s) → length words ≤ k → parse_of s ≡ None
unfolding parse_of
no_op_read s k e h = ap (λ (j : ℕ). rest_of j (after space s)) (sym e) ∙ rest_none k (after space s) h
