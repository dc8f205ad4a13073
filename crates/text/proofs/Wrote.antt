-- Laws of what was written: one write after another is one write of both. Assumes nothing.
use mathlib.Core.Path.{◌≡◌, refl, ap, sym, ◌∙◌}
use mathlib.Core.List.{List, [], ◌∷◌, ◌++◌}
use Prim.Native.Nat.{ℕ, suc, ◌+◌, ◌≤◌, ◌<◌}
use native.Mathlib.Nat.{add-zero}
use native.Mathlib.Numerals.{add-one}
use native.Mathlib.Omega.{arith}
use lib.ListN.{length, take, drop, set, get_or, length-append, length-take}
use lib.Seq.{sets, length-sets, sets-eq, take-suc, take_all, take_at, drop_at, set-set}
use Rattle.text.specs.Wrote.{Wrote}

pub sets_append : (l : List ℕ) (i : ℕ) (a b : List ℕ) → sets l i (a ++ b) ≡ sets (sets l i a) (i + length a) b
sets_append l i [] b = rw (add-zero i)
sets_append l i (x ∷ a) b =
    let q : suc i + length a ≡ i + suc (length a) = omega arith in
    sets_append (set l i x) (suc i) a b ∙ ap (λ (k : ℕ). sets (sets (set l i x) (suc i) a) k b) q

infixl 40 ◌then◌
-- one write, and another from where it ended
pub ◌then◌ : {l a b l' l'' : List ℕ} {at to to' : ℕ} → Wrote l at a l' to → Wrote l' to b l'' to' → Wrote l at (a ++ b) l'' to'
◌then◌ {l} {a} {b} {at = at} v w =
    record {
      place = omega (arith, v.place, w.place, length-append a b);
      memory = w.memory ∙ rw (v.memory, v.place, sets_append l at a b);
    }

pub wrote_byte : {l : List ℕ} {at b : ℕ} → Wrote l at (b ∷ []) (set l at b) (at + 1)
wrote_byte = record { place = refl; memory = refl }

-- one byte, and another over it
pub wrote_over : {l l' l'' : List ℕ} {at to to' x y : ℕ} → Wrote l at (x ∷ []) l' to → Wrote l' at (y ∷ []) l'' to' → Wrote l at (y ∷ []) l'' to'
wrote_over {l} {at = at} {x = x} {y = y} v w = record { place = w.place; memory = w.memory ∙ ap (λ (m : List ℕ). sets m at (y ∷ [])) v.memory ∙ set-set l at x y }

module _ {l : List ℕ} {at : ℕ} where
  pub wrote_nothing : Wrote l at [] l at
  wrote_nothing = record { place = omega arith; memory = refl }

  -- the memory is as long as it was
  pub as_long : {bs l' : List ℕ} {to : ℕ} → Wrote l at bs l' to → length l' ≡ length l
  as_long {bs} w = ap length w.memory ∙ length-sets l at bs

  -- where there was room: what stood before and after is as it was
  pub spliced : {bs l' : List ℕ} {to : ℕ} → Wrote l at bs l' to → at + length bs ≤ length l → l' ≡ take at l ++ bs ++ drop to l
  spliced {bs} w h = w.memory ∙ sets-eq bs l at h ∙ ap (λ (k : ℕ). take at l ++ bs ++ drop k l) (sym w.place)

  -- a copy that is at byte i of bs, and writes that one
  pub one_more_byte : (bs : List ℕ) {i : ℕ} {l' : List ℕ} → i < length bs → Wrote l at (take i bs) l' (at + i)
      → Wrote l at (take (i + 1) bs) (set l' (at + i) (get_or bs i 0)) (at + (i + 1))
  one_more_byte bs {i} h w =
      let q : at + i + 1 ≡ at + (i + 1) = omega arith in
      rw (add-one i, take-suc bs i 0 h, ← add-one i, ← q) (w then wrote_byte)

  -- a copy that has yet to begin
  pub wrote_none : (bs : List ℕ) → Wrote l at (take 0 bs) l (at + 0)
  wrote_none bs = rw (add-zero at) wrote_nothing

  -- a copy that has come to the end of bs
  pub wrote_all : (bs : List ℕ) {i : ℕ} {l' : List ℕ} → length bs ≤ i → Wrote l at (take i bs) l' (at + i) → Wrote l at bs l' (at + i)
  wrote_all bs {i} h w = rw (take_all i bs h) at w

  -- the memory up to the next place: what stood before, and what was written
  pub front : {bs l' : List ℕ} {to : ℕ} → Wrote l at bs l' to → at + length bs ≤ length l → take to l' ≡ take at l ++ bs
  front {bs} {to = to} w h =
      let q : length (take at l ++ bs) ≡ to = simp (length-append, length-take) (omega (arith, w.place)) in
      rw (spliced w h) (take_at (take at l ++ bs) (drop to l) to q)

  -- the memory from the next place on is as it was
  pub rest : {bs l' : List ℕ} {to : ℕ} → Wrote l at bs l' to → at + length bs ≤ length l → drop to l' ≡ drop to l
  rest {bs} {to = to} w h =
      let q : length (take at l ++ bs) ≡ to = simp (length-append, length-take) (omega (arith, w.place)) in
      rw (spliced w h) (drop_at (take at l ++ bs) (drop to l) to q)

  -- no more than k bytes were written
  pub at_most_bytes : {bs l' : List ℕ} {to k : ℕ} → Wrote l at bs l' to → length bs ≤ k → Wrote l at bs l' to × (to ≤ at + k)
  at_most_bytes w h = (w, omega (arith, w.place))
