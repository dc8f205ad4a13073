-- What the standard library's tests and conversions say, in the words of the definitions. Assumes nothing.
use mathlib.Core.Path.{◌≡◌, refl, sym, ap, ◌∙◌}
use mathlib.Core.Bool.{Bool, true, false, cond, ◌&&◌, ◌||◌}
use mathlib.Core.List.{List, [], ◌∷◌}
use Prim.Native.Nat.{ℕ, zero, suc, ◌+◌, ◌*◌, ◌-◌, ◌<◌}
use native.Mathlib.Omega.{arith}
use lib.Dec.{eqb, ltb}
use lib.ListN.{length, take, drop, get_or}
use lib.Pointwise.{pointwise}
use lib.Seq.{take_all, drop-drop}
use Rattle.std.proofs.Common.{Some, None}
use Rattle.std.specs.Int.{from_le_bytes, w32, w64}
use Rattle.std.specs.List.{list_any, position, position_or_len}
use Rattle.std.specs.Option.{unwrap_or}
use Rattle.std.specs.Simd.{first_chunks}
use Rattle.std.proofs.lemmas.List.Recursion.{is_position_or_len}
use borrow.Author.Tests.{eq-eqb, ne_eqb, eqb-true, eqb-false, lt-ltb, le-ltb, ltb-true, ltb-false}
use Rattle.text.specs.Bytes.{index_of, starts_with, is_word, little}
use Rattle.text.specs.Lines.{lf_count}
use Rattle.text.proofs.Lines.{lf_cut}
use Rattle.text.proofs.Bytes.{index_fits, differs_at, little_next, little_none}

-- The beginning of a part

pub stripped : (w s : List ℕ) → pointwise eqb (take (length w) s) w ≡ starts_with w s
unfolding starts_with
stripped [] s = refl
stripped (x ∷ w) [] = refl
stripped (x ∷ w) (y ∷ s) = ap (λ (b : Bool). eqb y x && b) (stripped w s)

eqb_suc : (m n : ℕ) → eqb (suc m) (suc n) ≡ eqb m n
eqb_suc m n = picked (eqb m n) refl
  where
    picked : (t : Bool) → eqb m n ≡ t → eqb (suc m) (suc n) ≡ t
    picked true e = eq-eqb (suc m) (suc n) (ap suc (eqb-true m n e))
    picked false e = ne_eqb (suc m) (suc n) (λ q. eqb-false m n e (omega arith))

pub same_word : (w s : List ℕ) → pointwise eqb s w ≡ is_word w s
unfolding is_word starts_with
same_word [] [] = refl
same_word [] (y ∷ s) = rw (ne_eqb (suc (length s)) 0 (λ q. omega arith))
same_word (x ∷ w) [] = rw (ne_eqb 0 (suc (length w)) (λ q. omega arith))
same_word (x ∷ w) (y ∷ s) =
    rw (eqb_suc (length s) (length w)) (ap (λ (b : Bool). eqb y x && b) (same_word w s) ∙ swapped (eqb y x) (eqb (length s) (length w)) (starts_with w s))
  where
    swapped : (a b c : Bool) → (a && (b && c)) ≡ (b && (a && c))
    swapped true true c = refl
    swapped true false c = refl
    swapped false true c = refl
    swapped false false c = refl

-- the word is not a list of another length, nor one of the same with another first element
pub other_length : (w s : List ℕ) → (length s ≡ length w → ⊥) → is_word w s ≡ false
unfolding is_word
other_length w s d = rw (ne_eqb (length s) (length w) d)

pub other_first : (w s : List ℕ) → 0 < length w → length s ≡ length w → (get_or s 0 0 ≡ get_or w 0 0 → ⊥) → is_word w s ≡ false
unfolding is_word
other_first w s h e d = rw (eq-eqb (length s) (length w) e, differs_at w s 0 h (omega arith) d)

-- Numbers of bytes

pub little_eight : (s : List ℕ) → length s ≡ 8 → from_le_bytes w64 s ≡ little s
little_eight s q =
    omega (
      arith,
      little_next 7 s 0 1 (omega arith) (omega arith),
      little_next 6 s 1 2 (omega arith) (omega arith),
      little_next 5 s 2 3 (omega arith) (omega arith),
      little_next 4 s 3 4 (omega arith) (omega arith),
      little_next 3 s 4 5 (omega arith) (omega arith),
      little_next 2 s 5 6 (omega arith) (omega arith),
      little_next 1 s 6 7 (omega arith) (omega arith),
      little_next 0 s 7 8 (omega arith) (omega arith),
      little_none (drop 8 s),
      ap little (take_all 8 s (omega arith)),
    )

pub little_four : (s : List ℕ) → length s ≡ 4 → from_le_bytes w32 s ≡ little s
little_four s q =
    omega (
      arith,
      little_next 3 s 0 1 (omega arith) (omega arith),
      little_next 2 s 1 2 (omega arith) (omega arith),
      little_next 1 s 2 3 (omega arith) (omega arith),
      little_next 0 s 3 4 (omega arith) (omega arith),
      little_none (drop 4 s),
      ap little (take_all 4 s (omega arith)),
    )

-- Places and parts

ltb_suc : (m n : ℕ) → ltb (suc m) (suc n) ≡ ltb m n
ltb_suc m n = picked (ltb m n) refl
  where
    picked : (t : Bool) → ltb m n ≡ t → ltb (suc m) (suc n) ≡ t
    picked true e = lt-ltb (suc m) (suc n) (omega (arith, ltb-true m n e))
    picked false e = le-ltb (suc m) (suc n) (omega (arith, ltb-false m n e))

-- the position of the first byte that is b
index_position : (b : ℕ) (s : List ℕ) → index_of b s ≡ position_or_len (λ x. eqb x b) s
unfolding index_of
index_position b s = is_position_or_len (index_of b) (λ x. eqb x b) refl (λ x s. ap (cond (eqb x b) 0) (omega arith)) s

pub position_of : (b : ℕ) (s : List ℕ) → unwrap_or (position (λ x. eqb x b) s) (length s) ≡ index_of b s
position_of b s = picked (position_or_len (λ x. eqb x b) s) (sym (index_position b s)) _ refl
  where
    picked : (p : ℕ) → p ≡ index_of b s → (t : Bool) → ltb p (length s) ≡ t → unwrap_or (cond t (Some p) None) (length s) ≡ index_of b s
    picked p e true f = e
    picked p e false f = omega (arith, ltb-false p (length s) f, index_fits b s)

-- a part has b where the first one stands within it
pub has_it : (b : ℕ) (s : List ℕ) → list_any (λ x. eqb x b) s ≡ ltb (index_of b s) (length s)
unfolding index_of
has_it b [] = refl
has_it b (x ∷ s) = picked (eqb x b) (has_it b s)
  where
    picked : (t : Bool) → list_any (λ x. eqb x b) s ≡ ltb (index_of b s) (length s)
        → (t || list_any (λ x. eqb x b) s) ≡ ltb (cond t zero (suc (index_of b s))) (suc (length s))
    picked true h = sym (lt-ltb 0 (suc (length s)) (omega arith))
    picked false h = h ∙ sym (ltb_suc (index_of b s) (length s))

-- a part of n bytes among the first
pub part_at : (n k i : ℕ) (s d : List ℕ) → i < k → get_or (first_chunks n k s) i d ≡ take n (drop (i * n) s)
part_at n zero i s d h = absurd (omega arith)
part_at n (suc k) zero s d h = let q : 0 ≡ 0 * n = omega arith in ap (λ (j : ℕ). take n (drop j s)) q
part_at n (suc k) (suc i) s d h =
    let q : n + i * n ≡ suc i * n = omega arith in
    part_at n k i (drop n s) d (omega arith) ∙ ap (take n) (drop-drop (i * n) n s ∙ ap (λ (j : ℕ). drop j s) q)

-- 64 bytes from a place on, and the rest
pub lfs_next : (s : List ℕ) (i : ℕ) → lf_count (drop (i * 64) s) ≡ lf_count (take 64 (drop (i * 64) s)) + lf_count (drop ((i + 1) * 64) s)
lfs_next s i =
    let j : ℕ = (i + 1) * 64 in
    let q : j - i * 64 ≡ 64 = omega arith in
    lf_cut s (i * 64) j (omega arith) ∙ ap (λ (k : ℕ). lf_count (take k (drop (i * 64) s)) + lf_count (drop j s)) q
