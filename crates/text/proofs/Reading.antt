-- Reading a text line by line. Assumes nothing.
use mathlib.Core.Path.{◌≡◌, refl, sym, ap, ap₂, ◌∙◌}
use mathlib.Core.Bool.{Bool, true, false}
use mathlib.Core.List.{List, [], ◌∷◌, ◌++◌}
use Prim.Native.Nat.{ℕ, suc, ◌+◌, ◌-◌, ◌≤◌, ◌<◌}
use native.Mathlib.Nat.{min_comm}
use native.Mathlib.Omega.{arith}
use lib.Dec.{leb}
use lib.ListN.{length, take, drop, get_or, length-append, length-drop, take-append-drop, drop_of_length-le}
use lib.Seq.{take_all, take-nil, drop-drop, length-take-le, take-append-le, drop-append-le, get_or-take, get_or-drop}
use borrow.Author.Tests.{leb-true, leb-false}
use Rattle.std.proofs.lemmas.List.{drop_min}
use Rattle.text.specs.Bytes.{index_of}
use Rattle.text.specs.Lines.{lf, lines_of, line_end}
use Rattle.text.specs.Reading.{line_at, place_after, next_at, LineStarts, ReadsLines}
use Rattle.text.proofs.Bytes.{index_fits, index_bound, index_front}
use Rattle.text.proofs.Lines.{lines_of_lem}

-- the part up to the line's end
pub line_part : (s : List ℕ) (at e : ℕ) → e ≡ at + line_end (drop at s) → take (e - at) (drop at s) ≡ line_at s at
unfolding line_at
line_part s at e h = let q : e - at ≡ line_end (drop at s) = omega (arith, h) in ap (λ (k : ℕ). take k (drop at s)) q

-- from the end of the text on, the empty part
pub line_past : (s : List ℕ) (at : ℕ) → length s ≤ at → take (length s - length s) (drop (length s) s) ≡ line_at s at
unfolding line_at
line_past s at h =
    rw (drop_of_length-le s {i = length s} (omega arith), drop_of_length-le s {i = at} h) (take-nil (length s - length s) ∙ sym (take-nil (line_end [])))

line_length : (s : List ℕ) (at : ℕ) → length (line_at s at) ≡ line_end (drop at s)
unfolding line_at
line_length s at = length-take-le (line_end (drop at s)) (drop at s) (index_fits lf (drop at s))

-- the place after a line that LF ends
pub next_place : (s : List ℕ) (at : ℕ) → at + line_end (drop at s) < length s → next_at s at ≡ at + line_end (drop at s) + 1
unfolding place_after
next_place s at h = omega (arith, line_length s at)

-- what follows the line and its LF
rest_after : (s : List ℕ) (at : ℕ) → drop (next_at s at) s ≡ drop (suc (line_end (drop at s))) (drop at s)
unfolding place_after
rest_after s at =
    ap (λ (k : ℕ). drop k s) (min_comm (length s) (at + suc (length (line_at s at)))) ∙ drop_min (at + suc (length (line_at s at))) s
    ∙ (ap (λ (k : ℕ). drop (at + suc k) s) (line_length s at) ∙ sym (drop-drop (suc (line_end (drop at s))) at s))

pub reads_lines : ReadsLines
unfolding line_at
reads_lines s at h =
    lines_of_lem (drop at s) (rw (length-drop at s) (omega arith)) ∙ ap (λ (t : List ℕ). line_at s at ∷ lines_of t) (sym (rest_after s at))

-- Up to a place where a line begins

-- where LF is the last byte, it ends each line
pub lf_within : (t : List ℕ) (at : ℕ) → at < length t → get_or t (length t - 1) 0 ≡ lf → line_end (drop at t) < length (drop at t)
lf_within t at h e =
    let q : at + (length t - 1 - at) ≡ length t - 1 = omega arith in
    let b = index_bound lf (drop at t) (length t - 1 - at) (omega (arith, length-drop at t)) (get_or-drop at t (length t - 1 - at) 0 ∙ ap (λ (j : ℕ). get_or t j 0) q ∙ e) in
    omega (arith, length-drop at t, b)

-- a line that LF ends in t is the same in t ++ v
module _ (t v : List ℕ) (at : ℕ) (h : at < length t) (e : line_end (drop at t) < length (drop at t)) where
  ends : line_end (drop at (t ++ v)) ≡ line_end (drop at t)
  ends = ap (index_of lf) (drop-append-le at t v (omega arith)) ∙ index_front lf (drop at t) v e

  front_line : line_at (t ++ v) at ≡ line_at t at
  unfolding line_at
  front_line = ap₂ (λ (n : ℕ) (l : List ℕ). take n l) ends (drop-append-le at t v (omega arith)) ∙ take-append-le (line_end (drop at t)) (drop at t) v (omega arith)

  front_next : next_at (t ++ v) at ≡ next_at t at
  front_next =
      let b : at + line_end (drop at t) < length t = omega (arith, length-drop at t, e) in
      next_place (t ++ v) at (omega (arith, length-append t v, ends)) ∙ ap (λ (n : ℕ). at + n + 1) ends ∙ sym (next_place t at b)

-- what is read before a place where a line begins does not hang on what follows it
pub read_within : (s : List ℕ) (end at : ℕ) → LineStarts s end → at < end → (line_at s at ≡ line_at (take end s) at) × (next_at s at ≡ next_at (take end s) at)
read_within s end at w k = picked (leb (length s) end) refl
  where
    Same : Type 0
    Same = (line_at s at ≡ line_at (take end s) at) × (next_at s at ≡ next_at (take end s) at)

    picked : (b : Bool) → leb (length s) end ≡ b → Same
    picked true e = let q = sym (take_all end s (leb-true (length s) end e)) in (ap (λ (l : List ℕ). line_at l at) q, ap (λ (l : List ℕ). next_at l at) q)
    picked false e =
        let more = leb-false (length s) end e in
        let long : length (take end s) ≡ end = length-take-le end s w.within in
        let last : length (take end s) - 1 ≡ end - 1 = omega (arith, long) in
        let byte = ap (λ (j : ℕ). get_or (take end s) j 0) last ∙ get_or-take end s (end - 1) 0 (omega arith) ∙ w.after_lf (omega arith) more in
        let here : at < length (take end s) = omega (arith, long) in
        let b = lf_within (take end s) at here byte in
        let q = sym (take-append-drop end s) in
        (ap (λ (l : List ℕ). line_at l at) q ∙ front_line (take end s) (drop end s) at here b, ap (λ (l : List ℕ). next_at l at) q ∙ front_next (take end s) (drop end s) at here b)

-- the lines before such a place: the one that begins at `at`, and those after it
pub lines_within : (s : List ℕ) (end at : ℕ) → LineStarts s end → at < end
    → lines_of (drop at (take end s)) ≡ line_at s at ∷ lines_of (drop (next_at s at) (take end s))
lines_within s end at w k =
    let (l, n) = read_within s end at w k in
    let long : length (take end s) ≡ end = length-take-le end s w.within in
    reads_lines (take end s) at (omega (arith, long))
    ∙ ap₂ (λ (x : List ℕ) (j : ℕ). x ∷ lines_of (drop j (take end s))) (sym l) (sym n)

-- the reader moves on, and not past such a place
pub moves_on : (s : List ℕ) (end at : ℕ) {next : ℕ} → LineStarts s end → at < end → next ≡ next_at s at → (at < next) × (next ≤ end)
unfolding place_after
moves_on s end at w k e =
    let long : length (take end s) ≡ end = length-take-le end s w.within in
    let q = e ∙ (read_within s end at w k).1 in (omega (arith, long, q), omega (arith, long, q))
