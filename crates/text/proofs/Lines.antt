-- The lines of a text, one by one and counted. Assumes nothing.
use mathlib.Core.Path.{◌≡◌, refl, sym, ap, ap₂, ◌∙◌}
use mathlib.Core.Bool.{Bool, true, false, cond}
use mathlib.Core.List.{List, [], ◌∷◌, ◌++◌}
use Prim.Native.Nat.{ℕ, zero, suc, ◌+◌, ◌-◌, ◌≤◌, ◌<◌}
use native.Mathlib.Numerals.{add-one}
use native.Mathlib.Omega.{arith}
use lib.Dec.{eqb}
use lib.ListN.{length, get_or, take, drop, length-take, drop_of_length-le}
use lib.Seq.{drop-drop, drop-cons, take-length}
use borrow.Author.Tests.{eq-eqb, ne_eqb}
use Rattle.text.specs.Bytes.{index_of}
use Rattle.text.specs.Lines.{lf, begun_by, lines_of, line_end, lf_bit, lf_count}
use Rattle.text.proofs.Bytes.{Without, before_seam, after_seam}

pub no_lines : lines_of [] ≡ []
unfolding lines_of
no_lines = refl

-- the first line of a text that is not empty, and the lines after it
pub lines_from_lem : (b : ℕ) (s : List ℕ) → lines_of (b ∷ s) ≡ take (line_end (b ∷ s)) (b ∷ s) ∷ lines_of (drop (suc (line_end (b ∷ s))) (b ∷ s))
unfolding lines_of index_of
lines_from_lem b [] = picked (eqb b lf)
  where
    picked : (t : Bool) → cond t ([] ∷ []) (begun_by b []) ≡ take (cond t zero 1) (b ∷ []) ∷ lines_of (drop (suc (cond t zero 1)) (b ∷ []))
    picked true = refl
    picked false = refl
lines_from_lem b (c ∷ s) = picked (eqb b lf) (lines_from_lem c s)
  where
    picked : (t : Bool) → let u = c ∷ s in lines_of u ≡ take (line_end u) u ∷ lines_of (drop (suc (line_end u)) u)
        → let e = cond t zero (suc (line_end u)) in
        cond t ([] ∷ lines_of u) (begun_by b (lines_of u)) ≡ take e (b ∷ u) ∷ lines_of (drop (suc e) (b ∷ u))
    picked true ih = refl
    picked false ih = ap (begun_by b) ih

pub lines_of_lem : (s : List ℕ) → 0 < length s → lines_of s ≡ take (line_end s) s ∷ lines_of (drop (suc (line_end s)) s)
lines_of_lem [] h = absurd (omega arith)
lines_of_lem (b ∷ s) h = lines_from_lem b s

-- a line that is ended by LF, and what follows
pub line_first : (line rest : List ℕ) → Without lf line → lines_of (line ++ (lf ∷ rest)) ≡ line ∷ lines_of rest
line_first line rest h = lines_of_lem (line ++ (lf ∷ rest)) (some line) ∙ ap₂ (λ (l : List ℕ) (t : List ℕ). l ∷ lines_of t) (before_seam lf line rest h) (after_seam lf line rest h)
  where
    some : (l : List ℕ) → 0 < length (l ++ (lf ∷ rest))
    some [] = omega arith
    some (x ∷ l) = omega arith

-- a rest without LF
pub line_last : (line : List ℕ) → Without lf line → 0 < length line → lines_of line ≡ line ∷ []
line_last line h k =
    lines_of_lem line k ∙ rw (h, take-length line, drop_of_length-le line {i = suc (length line)} (omega arith), no_lines)

-- a text has at most as many lines as bytes
pub lines_fit : (s : List ℕ) → length (lines_of s) ≤ length s
unfolding lines_of
lines_fit [] = omega arith
lines_fit (b ∷ s) = picked (eqb b lf) (lines_of s) (lines_fit s)
  where
    picked : (t : Bool) (ls : List (List ℕ)) → length ls ≤ length s → length (cond t ([] ∷ ls) (begun_by b ls)) ≤ suc (length s)
    picked true ls h = omega arith
    picked false [] h = omega arith
    picked false (l ∷ ls) h = omega arith

-- Lines by their LFs

pub lf_none : lf_count [] ≡ 0
unfolding lf_count
lf_none = refl

-- from place i on: the byte there counts, or the list is at its end
pub lf_at : (s : List ℕ) (i : ℕ) → i < length s → lf_count (drop i s) ≡ lf_bit (get_or s i 0) + lf_count (drop (i + 1) s)
unfolding lf_count
lf_at s i h = rw (add-one i, drop-cons s i 0 h)

pub lf_ended : (s : List ℕ) (i : ℕ) → length s ≤ i → lf_count (drop i s) ≡ 0
lf_ended s i h = rw (drop_of_length-le s h, lf_none)

lf_parts : (k : ℕ) (s : List ℕ) → lf_count s ≡ lf_count (take k s) + lf_count (drop k s)
unfolding lf_count
lf_parts zero s = omega arith
lf_parts (suc k) [] = refl
lf_parts (suc k) (b ∷ s) = omega (arith, lf_parts k s)

-- what stands from place i on, cut at place j
pub lf_cut : (s : List ℕ) (i j : ℕ) → i ≤ j → lf_count (drop i s) ≡ lf_count (take (j - i) (drop i s)) + lf_count (drop j s)
lf_cut s i j h =
    let q : i + (j - i) ≡ j = omega arith in
    lf_parts (j - i) (drop i s)
    ∙ ap (λ (t : List ℕ). lf_count (take (j - i) (drop i s)) + lf_count t) (drop-drop (j - i) i s ∙ ap (λ (k : ℕ). drop k s) q)

pub cut_fits : (s : List ℕ) (i j : ℕ) → length (take (j - i) (drop i s)) ≤ j - i
cut_fits s i j = omega (arith, length-take (j - i) (drop i s))

begun_length : (b : ℕ) (ls : List (List ℕ)) → 0 < length ls → length (begun_by b ls) ≡ length ls
begun_length b [] h = absurd (omega arith)
begun_length b (l ∷ ls) h = refl

-- one byte more before a text that is not empty is a line more exactly where it is LF
line_more : (b c : ℕ) (s : List ℕ) → length (lines_of (b ∷ (c ∷ s))) ≡ lf_bit b + length (lines_of (c ∷ s))
unfolding lines_of
line_more b c s = picked (eqb b lf)
  where
    some : 0 < length (lines_of (c ∷ s))
    some = rw (lines_from_lem c s) (omega arith)

    picked : (t : Bool) → length (cond t ([] ∷ lines_of (c ∷ s)) (begun_by b (lines_of (c ∷ s)))) ≡ cond t 1 0 + length (lines_of (c ∷ s))
    picked true = omega arith
    picked false = omega (arith, begun_length b (lines_of (c ∷ s)) some)

-- the last byte is that of what follows the first
last_later : (b c : ℕ) (s : List ℕ) → get_or (b ∷ (c ∷ s)) (length (b ∷ (c ∷ s)) - 1) 0 ≡ get_or (c ∷ s) (length (c ∷ s) - 1) 0
last_later b c s =
    let q : length (b ∷ (c ∷ s)) - 1 ≡ suc (length (c ∷ s) - 1) = omega arith in
    ap (λ (k : ℕ). get_or (b ∷ (c ∷ s)) k 0) q

-- a text that ends with LF has a line for each, and any other that is not empty has one more
pub lines_ended : (s : List ℕ) → 0 < length s → get_or s (length s - 1) 0 ≡ lf → length (lines_of s) ≡ lf_count s
unfolding lines_of lf_count
lines_ended [] h e = absurd (omega arith)
lines_ended (b ∷ []) h e = rw (eq-eqb b lf e)
lines_ended (b ∷ (c ∷ s)) h e = line_more b c s ∙ ap (λ (n : ℕ). lf_bit b + n) (lines_ended (c ∷ s) (omega arith) (sym (last_later b c s) ∙ e))

pub lines_open : (s : List ℕ) → 0 < length s → (get_or s (length s - 1) 0 ≡ lf → ⊥) → length (lines_of s) ≡ lf_count s + 1
unfolding lines_of lf_count
lines_open [] h d = absurd (omega arith)
lines_open (b ∷ []) h d = rw (ne_eqb b lf d)
lines_open (b ∷ (c ∷ s)) h d = line_more b c s ∙ omega (arith, lines_open (c ∷ s) (omega arith) (λ e. d (last_later b c s ∙ e)))
