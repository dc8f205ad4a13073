-- The first place of a byte, what stands before and after it, and words at the start of a list. Assumes nothing.
use mathlib.Core.Path.{◌≡◌, refl, sym, ap, ap₂, ◌∙◌}
use mathlib.Core.Bool.{Bool, true, false, cond, ◌&&◌}
use mathlib.Core.List.{List, [], ◌∷◌, ◌++◌, append-nil}
use Prim.Native.Nat.{ℕ, zero, suc, ◌+◌, ◌*◌, ◌-◌, ◌≤◌, ◌<◌}
use native.Mathlib.Nat.{add-zero}
use native.Mathlib.Numerals.{add-one}
use native.Mathlib.Omega.{arith}
use lib.Dec.{eqb, ltb}
use lib.ListN.{length, get_or, take, drop, drop_of_length-le, length-append, length-drop, take-append-drop}
use lib.Seq.{take-append_seam, drop-cons, drop-drop, length-take-le}
use borrow.Author.Tests.{eq-eqb, ne_eqb, eqb-true, eqb-false, lt-ltb, le-ltb, ltb-true, ltb-false}
use Rattle.text.specs.Bytes.{index_of, up_to, after, starts_with, is_word, little}

-- The first place of a byte

pub index_here : (b : ℕ) {x : ℕ} (s : List ℕ) → x ≡ b → index_of b (x ∷ s) ≡ 0
unfolding index_of
index_here b {x} s e = rw (eq-eqb x b e)

pub index_later : (b : ℕ) {x : ℕ} (s : List ℕ) → (x ≡ b → ⊥) → index_of b (x ∷ s) ≡ suc (index_of b s)
unfolding index_of
index_later b {x} s d = rw (ne_eqb x b d)

pub index_none : (b : ℕ) → index_of b [] ≡ 0
unfolding index_of
index_none b = refl

-- from place i on: the byte is there, or not, or the list is at its end
module _ (b : ℕ) (s : List ℕ) (i : ℕ) where
  pub found_at : i < length s → get_or s i 0 ≡ b → i + index_of b (drop i s) ≡ i
  found_at h e = rw (drop-cons s i 0 h, index_here b (drop (suc i) s) e) (add-zero i)

  pub passed_at : i < length s → (get_or s i 0 ≡ b → ⊥) → i + index_of b (drop i s) ≡ (i + 1) + index_of b (drop (i + 1) s)
  passed_at h d = rw (add-one i, drop-cons s i 0 h, index_later b (drop (suc i) s) d) (omega arith)

  pub ended_at : length s ≤ i → i + index_of b (drop i s) ≡ i
  ended_at h = rw (drop_of_length-le s h, index_none b) (add-zero i)

pub index_fits : (b : ℕ) (s : List ℕ) → index_of b s ≤ length s
unfolding index_of
index_fits b [] = omega arith
index_fits b (x ∷ s) = picked (eqb x b) (index_fits b s)
  where
    picked : (t : Bool) → index_of b s ≤ length s → cond t zero (suc (index_of b s)) ≤ suc (length s)
    picked true h = omega arith
    picked false h = omega arith

-- there is a b no later than at a place that has one
pub index_bound : (b : ℕ) (s : List ℕ) (j : ℕ) → j < length s → get_or s j 0 ≡ b → index_of b s ≤ j
unfolding index_of
index_bound b [] j h e = absurd (omega arith)
index_bound b (x ∷ s) zero h e = rw (eq-eqb x b e) (omega arith)
index_bound b (x ∷ s) (suc j) h e = picked (eqb x b) (index_bound b s j (omega arith) e)
  where
    picked : (t : Bool) → index_of b s ≤ j → cond t zero (suc (index_of b s)) ≤ suc j
    picked true k = omega arith
    picked false k = omega arith

-- b was seen, or it stands from place i on
abbrev pub seen_from : Bool → ℕ → List ℕ → ℕ → Bool
seen_from t b s i = cond t true (ltb (i + index_of b (drop i s)) (length s))

pub seen_none : (b : ℕ) (s : List ℕ) → ltb (index_of b s) (length s) ≡ seen_from false b s 0
seen_none b s = let q : index_of b s ≡ 0 + index_of b s = omega arith in ap (λ (k : ℕ). ltb k (length s)) q

pub seen_next : (t : Bool) (b : ℕ) (s : List ℕ) (i : ℕ) → i < length s → seen_from t b s i ≡ seen_from (cond (eqb (get_or s i 0) b) true t) b s (i + 1)
seen_next t b s i h = picked (eqb (get_or s i 0) b) refl t
  where
    picked : (e : Bool) → eqb (get_or s i 0) b ≡ e → (t : Bool) → seen_from t b s i ≡ seen_from (cond e true t) b s (i + 1)
    picked true e true = refl
    picked true e false = rw (found_at b s i h (eqb-true (get_or s i 0) b e)) (lt-ltb i (length s) h)
    picked false e true = refl
    picked false e false = rw (passed_at b s i h (eqb-false (get_or s i 0) b e))

pub seen_all : (t : Bool) (b : ℕ) (s : List ℕ) (i : ℕ) → length s ≤ i → seen_from t b s i ≡ t
seen_all true b s i h = refl
seen_all false b s i h = rw (ended_at b s i h) (le-ltb i (length s) h)

-- n bytes of m were counted, and from place i on those before the first b count if no b was met (a is 1, not 0)
pub count_next : (a n m b : ℕ) (s : List ℕ) (i : ℕ) → a ≤ 1 → i < length s → m ≡ n + a * index_of b (drop i s)
    → m ≡ (n + cond (eqb (get_or s i 0) b) 0 a) + cond (eqb (get_or s i 0) b) 0 a * index_of b (drop (i + 1) s)
count_next a n m b s i l h e = picked (eqb (get_or s i 0) b) refl a l e
  where
    picked : (t : Bool) → eqb (get_or s i 0) b ≡ t → (a : ℕ) → a ≤ 1 → m ≡ n + a * index_of b (drop i s)
        → m ≡ (n + cond t 0 a) + cond t 0 a * index_of b (drop (i + 1) s)
    picked true f zero l e = omega arith
    picked true f (suc zero) l e = omega (arith, found_at b s i h (eqb-true (get_or s i 0) b f))
    picked true f (suc (suc a)) l e = absurd (omega arith)
    picked false f zero l e = omega arith
    picked false f (suc zero) l e = omega (arith, passed_at b s i h (eqb-false (get_or s i 0) b f))
    picked false f (suc (suc a)) l e = absurd (omega arith)

pub count_all : (a n m b : ℕ) (s : List ℕ) (i : ℕ) → a ≤ 1 → length s ≤ i → m ≡ n + a * index_of b (drop i s) → n ≡ m
count_all zero n m b s i l h e = omega arith
count_all (suc zero) n m b s i l h e = omega (arith, ended_at b s i h)
count_all (suc (suc a)) n m b s i l h e = absurd (omega arith)

-- Before and after

-- no element of the list is b
abbrev pub Without : ℕ → List ℕ → Type 0
Without b s = index_of b s ≡ length s

first_not : (t : Bool) (n m : ℕ) → cond t zero (suc n) ≡ suc m → (t ≡ false) × (n ≡ m)
first_not true n m e = absurd (omega arith)
first_not false n m e = (refl, omega arith)

pub without_append : (b : ℕ) (w s : List ℕ) → Without b w → Without b s → Without b (w ++ s)
unfolding index_of
without_append b [] s h k = k
without_append b (x ∷ w) s h k = let (f, g) = first_not (eqb x b) (index_of b w) (length w) h in rw f (ap suc (without_append b w s g k))

pub index_seam : (b : ℕ) (w s : List ℕ) → Without b w → index_of b (w ++ (b ∷ s)) ≡ length w
unfolding index_of
index_seam b [] s h = index_here b s refl
index_seam b (x ∷ w) s h = let (f, g) = first_not (eqb x b) (index_of b w) (length w) h in rw f (ap suc (index_seam b w s g))

pub without_cons : (b x : ℕ) (s : List ℕ) → (x ≡ b → ⊥) → Without b s → Without b (x ∷ s)
without_cons b x s d h = index_later b s d ∙ ap suc h

-- the first byte is not b, and none after it
pub without_head : (b x : ℕ) (s : List ℕ) → Without b (x ∷ s) → (x ≡ b → ⊥) × Without b s
unfolding index_of
without_head b x s h = let (f, g) = first_not (eqb x b) (index_of b s) (length s) h in (eqb-false x b f, g)

-- none from a place on, so none from a later one on
pub without_drop : (b : ℕ) (s : List ℕ) (n : ℕ) → Without b s → Without b (drop n s)
without_drop b s zero h = h
without_drop b [] (suc n) h = h
without_drop b (x ∷ s) (suc n) h = without_drop b s n (without_head b x s h).1

pub without_take : (b : ℕ) (s : List ℕ) (n : ℕ) → Without b s → Without b (take n s)
without_take b s zero h = index_none b
without_take b [] (suc n) h = h
without_take b (x ∷ s) (suc n) h = let (d, g) = without_head b x s h in without_cons b x (take n s) d (without_take b s n g)

drop_seam : (w : List ℕ) (b : ℕ) (s : List ℕ) → drop (suc (length w)) (w ++ (b ∷ s)) ≡ s
drop_seam [] b s = refl
drop_seam (x ∷ w) b s = drop_seam w b s

pub before_seam : (b : ℕ) (w s : List ℕ) → Without b w → up_to b (w ++ (b ∷ s)) ≡ w
before_seam b w s h = rw (index_seam b w s h) (take-append_seam w (b ∷ s))

pub after_seam : (b : ℕ) (w s : List ℕ) → Without b w → after b (w ++ (b ∷ s)) ≡ s
after_seam b w s h = rw (index_seam b w s h) (drop_seam w b s)

-- a list without b, and then another
pub index_append : (b : ℕ) (w s : List ℕ) → Without b w → index_of b (w ++ s) ≡ length w + index_of b s
unfolding index_of
index_append b [] s h = omega arith
index_append b (x ∷ w) s h =
    let (f, g) = first_not (eqb x b) (index_of b w) (length w) h in
    rw (f, index_append b w s g) (omega arith)

-- a part without b is passed over
pub passed_over : (b : ℕ) (s : List ℕ) (i j : ℕ) → i ≤ j → j ≤ length s
    → ltb (index_of b (take (j - i) (drop i s))) (length (take (j - i) (drop i s))) ≡ false → i + index_of b (drop i s) ≡ j + index_of b (drop j s)
passed_over b s i j h l e =
    let w : List ℕ = take (j - i) (drop i s) in
    let p : length w ≡ j - i = length-take-le (j - i) (drop i s) (rw (length-drop i s) (omega arith)) in
    let n : Without b w = omega (arith, ltb-false (index_of b w) (length w) e, index_fits b w) in
    let g : i + (j - i) ≡ j = omega arith in
    let q : drop i s ≡ w ++ drop j s = sym (take-append-drop (j - i) (drop i s)) ∙ ap (λ (t : List ℕ). w ++ t) (drop-drop (j - i) i s ∙ ap (λ (k : ℕ). drop k s) g) in
    ap (λ (t : List ℕ). i + index_of b t) q ∙ ap (λ (k : ℕ). i + k) (index_append b w (drop j s) n) ∙ omega arith

-- a b in front is the first one
pub index_front : (b : ℕ) (w s : List ℕ) → index_of b w < length w → index_of b (w ++ s) ≡ index_of b w
unfolding index_of
index_front b [] s h = absurd (omega arith)
index_front b (x ∷ w) s h = picked (eqb x b) h (index_front b w s)
  where
    picked : (t : Bool) → cond t zero (suc (index_of b w)) < suc (length w) → (index_of b w < length w → index_of b (w ++ s) ≡ index_of b w)
        → cond t zero (suc (index_of b (w ++ s))) ≡ cond t zero (suc (index_of b w))
    picked true h ih = refl
    picked false h ih = ap suc (ih (omega arith))

pub found_in : (b : ℕ) (s : List ℕ) (i j : ℕ) → i ≤ j → j ≤ length s → index_of b (take (j - i) (drop i s)) < j - i
    → index_of b (drop i s) ≡ index_of b (take (j - i) (drop i s))
found_in b s i j h l e =
    let p : length (take (j - i) (drop i s)) ≡ j - i = length-take-le (j - i) (drop i s) (rw (length-drop i s) (omega arith)) in
    ap (index_of b) (sym (take-append-drop (j - i) (drop i s))) ∙ index_front b (take (j - i) (drop i s)) (drop (j - i) (drop i s)) (omega arith)

-- there is no b before the first b
pub before_without : (b : ℕ) (s : List ℕ) → Without b (up_to b s)
unfolding index_of
before_without b [] = refl
before_without b (x ∷ s) = picked (eqb x b) refl (before_without b s)
  where
    picked : (t : Bool) → eqb x b ≡ t → Without b (up_to b s) → Without b (take (cond t zero (suc (index_of b s))) (x ∷ s))
    picked true e ih = refl
    picked false e ih = without_cons b x (up_to b s) (eqb-false x b e) ih

-- where there is a b, the list is what stands before it, b and what stands after
pub split_first : (b : ℕ) (s : List ℕ) → index_of b s < length s → s ≡ up_to b s ++ (b ∷ after b s)
unfolding index_of
split_first b [] h = absurd (omega arith)
split_first b (x ∷ s) h = picked (eqb x b) refl h (split_first b s)
  where
    picked : (t : Bool) → eqb x b ≡ t → cond t zero (suc (index_of b s)) < suc (length s)
        → (index_of b s < length s → s ≡ up_to b s ++ (b ∷ after b s))
        → x ∷ s ≡ take (cond t zero (suc (index_of b s))) (x ∷ s) ++ (b ∷ drop (suc (cond t zero (suc (index_of b s)))) (x ∷ s))
    picked true e h ih = ap (λ (y : ℕ). y ∷ s) (eqb-true x b e)
    picked false e h ih = ap (λ (l : List ℕ). x ∷ l) (ih (omega arith))

-- so where something stands after it
pub joined : (b : ℕ) (s w t : List ℕ) → up_to b s ≡ w → after b s ≡ t → 0 < length t → s ≡ w ++ (b ∷ t)
joined b s w t e f h =
    split_first b s (omega (arith, length-drop (suc (index_of b s)) s, ap length f))
    ∙ ap₂ (λ (l : List ℕ) (m : List ℕ). l ++ (b ∷ m)) e f

-- Words

pub starts_short : (w s : List ℕ) → length s < length w → starts_with w s ≡ false
unfolding starts_with
starts_short [] s h = absurd (omega arith)
starts_short (x ∷ w) [] h = refl
starts_short (x ∷ w) (y ∷ s) h = rw (starts_short w s (omega arith)) (and_no (eqb y x))
  where
    and_no : (t : Bool) → (t && false) ≡ false
    and_no true = refl
    and_no false = refl

-- from place i on: the bytes are the same there, or not, or the word is at its end
module _ (w s : List ℕ) (i : ℕ) where
  pub same_at : i < length w → i < length s → get_or s i 0 ≡ get_or w i 0
      → starts_with (drop i w) (drop i s) ≡ starts_with (drop (i + 1) w) (drop (i + 1) s)
  unfolding starts_with
  same_at h k e = rw (add-one i, drop-cons w i 0 h, drop-cons s i 0 k, eq-eqb (get_or s i 0) (get_or w i 0) e)

  pub differs_at : i < length w → i < length s → (get_or s i 0 ≡ get_or w i 0 → ⊥) → starts_with (drop i w) (drop i s) ≡ false
  unfolding starts_with
  differs_at h k d = rw (drop-cons w i 0 h, drop-cons s i 0 k, ne_eqb (get_or s i 0) (get_or w i 0) d)

  pub word_ended : length w ≤ i → starts_with (drop i w) (drop i s) ≡ true
  unfolding starts_with
  word_ended h = rw (drop_of_length-le w h)

pub and_true : (a b : Bool) → (a && b) ≡ true → (a ≡ true) × (b ≡ true)
and_true true b e = (refl, e)
and_true false b e = absurd (let z : ◌≡◌ {A = ℕ} 0 1 = cc in omega arith)

-- a list that starts with a word is the word and what follows it
pub word_split : (w s : List ℕ) → starts_with w s ≡ true → s ≡ w ++ drop (length w) s
unfolding starts_with
word_split [] s e = refl
word_split (x ∷ w) [] e = absurd (let z : ◌≡◌ {A = ℕ} 0 1 = cc in omega arith)
word_split (x ∷ w) (y ∷ s) e =
    let (f, g) = and_true (eqb y x) (starts_with w s) e in
    ap₂ (λ (z : ℕ) (l : List ℕ). z ∷ l) (eqb-true y x f) (word_split w s g)

pub word_starts : (w s : List ℕ) → starts_with w (w ++ s) ≡ true
unfolding starts_with
word_starts [] s = refl
word_starts (x ∷ w) s = rw (eq-eqb x x refl) (word_starts w s)

pub is_the_word : (w s : List ℕ) → is_word w s ≡ true → s ≡ w
unfolding is_word
is_the_word w s e =
    let (f, g) = and_true (eqb (length s) (length w)) (starts_with w s) e in
    let h : length s ≤ length w = omega (arith, eqb-true (length s) (length w) f) in
    word_split w s g ∙ rw (drop_of_length-le s h) (append-nil w)

pub word_fits : (w s : List ℕ) → starts_with w s ≡ true → length w ≤ length s
word_fits w s e = omega (arith, simp length-append at (ap length (word_split w s e)))

-- Bytes as one number

-- no element is k or more
abbrev pub Below : ℕ → List ℕ → Type 0
Below k s = (i : ℕ) → get_or s i 0 < k

unfoldable pub all_below : ℕ → List ℕ → Bool
all_below k [] = true
all_below k (x ∷ s) = ltb x k && all_below k s

pub all_below_lem : (k : ℕ) (s : List ℕ) → 0 < k → all_below k s ≡ true → Below k s
unfolding all_below
all_below_lem k [] h e i = h
all_below_lem k (x ∷ s) h e zero = ltb-true x k (and_true (ltb x k) (all_below k s) e).0
all_below_lem k (x ∷ s) h e (suc i) = all_below_lem k s h (and_true (ltb x k) (all_below k s) e).1 i

pub below_take : (k n : ℕ) (s : List ℕ) → 0 < k → Below k s → Below k (take n s)
below_take k zero s h b i = h
below_take k (suc n) [] h b i = h
below_take k (suc n) (x ∷ s) h b zero = b zero
below_take k (suc n) (x ∷ s) h b (suc i) = below_take k n s h (λ j. b (suc j)) i

pub below_drop : (k n : ℕ) (s : List ℕ) → Below k s → Below k (drop n s)
below_drop k zero s b i = b i
below_drop k (suc n) [] b i = b i
below_drop k (suc n) (x ∷ s) b i = below_drop k n s (λ j. b (suc j)) i

-- the number has the bytes
pub little_same : (w v : List ℕ) → length w ≡ length v → Below 256 w → Below 256 v → little w ≡ little v → w ≡ v
unfolding little
little_same [] [] h a b e = refl
little_same [] (y ∷ v) h a b e = absurd (omega arith)
little_same (x ∷ w) [] h a b e = absurd (omega arith)
little_same (x ∷ w) (y ∷ v) h a b e =
    let p : x < 256 = a zero in
    let q : y < 256 = b zero in
    let f : x ≡ y = omega arith in
    let g : little w ≡ little v = omega arith in
    ap₂ (λ (z : ℕ) (l : List ℕ). z ∷ l) f (little_same w v (omega arith) (λ i. a (suc i)) (λ i. b (suc i)) g)

-- a number of the bytes from place i on, from that of the bytes from the next place on
pub little_next : (k : ℕ) (s : List ℕ) (i j : ℕ) → j ≡ i + 1 → i < length s → little (take (suc k) (drop i s)) ≡ get_or s i 0 + 256 * little (take k (drop j s))
unfolding little
little_next k s i j q h = rw (q, add-one i, drop-cons s i 0 h)

pub little_none : (s : List ℕ) → little (take 0 s) ≡ 0
unfolding little
little_none s = refl
