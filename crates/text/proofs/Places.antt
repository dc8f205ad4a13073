-- Words that stand in a text from a place on. Assumes nothing.
use mathlib.Core.Path.{◌≡◌, sym, ap, ap₂, ◌∙◌}
use mathlib.Core.List.{List, [], ◌∷◌, ◌++◌, append_assoc}
use Prim.Native.Nat.{ℕ, suc, ◌+◌, ◌≤◌, ◌<◌}
use native.Mathlib.Omega.{arith}
use lib.ListN.{length, get_or, take, drop, take-append-drop, length-drop, length-append}
use lib.Seq.{take-append_seam, drop-append_seam, drop-cons, drop-drop, take_all, length-take-le}
use Rattle.std.specs.Prelude.{Some}
use Rattle.text.specs.Bytes.{little}
use Rattle.text.specs.LineForm.{read_decimal}
use Rattle.text.specs.Printing.{decimal}
use Rattle.text.specs.Places.{StandsAt, FieldAt}
use Rattle.text.proofs.Bytes.{Below, below_take, below_drop, little_same}
use Rattle.text.proofs.Numerals.{read_decimal_lem}

-- the text from the place on is the word and what follows it, and the other way
pub says_split : {s : List ℕ} {at : ℕ} {w : List ℕ} → StandsAt s at w → drop at s ≡ w ++ drop (at + length w) s
says_split {s} {at} {w} h = sym (take-append-drop (length w) (drop at s)) ∙ ap₂ (λ (x : List ℕ) (y : List ℕ). x ++ y) h.is (drop-drop (length w) at s)

says_made : (s : List ℕ) (at : ℕ) (w rest : List ℕ) → drop at s ≡ w ++ rest → StandsAt s at w
says_made s at w rest e = record { is = ap (take (length w)) e ∙ take-append_seam w rest }

-- two words, one after the other
pub says_both : (s : List ℕ) (at to : ℕ) (w v : List ℕ) → to ≡ at + length w → StandsAt s at w → StandsAt s to v → StandsAt s at (w ++ v)
says_both s at to w v q h k =
    says_made s at (w ++ v) (drop (to + length v) s)
    (says_split h ∙ ap (λ (i : ℕ). w ++ drop i s) (sym q) ∙ ap (λ (t : List ℕ). w ++ t) (says_split k) ∙ sym (append_assoc w v (drop (to + length v) s)))

module _ (s : List ℕ) (at : ℕ) (w v : List ℕ) (h : StandsAt s at (w ++ v)) where
  abbrev rest : List ℕ
  rest = v ++ drop (at + length (w ++ v)) s

  both : drop at s ≡ w ++ rest
  both = says_split h ∙ append_assoc w v (drop (at + length (w ++ v)) s)

  pub says_first : StandsAt s at w
  says_first = says_made s at w rest both

  pub says_last : (to : ℕ) → to ≡ at + length w → StandsAt s to v
  says_last to q =
      says_made s to v (drop (at + length (w ++ v)) s)
      (ap (λ (i : ℕ). drop i s) q ∙ sym (drop-drop (length w) at s) ∙ ap (drop (length w)) both ∙ drop-append_seam w rest)

-- one byte
pub says_byte : (s : List ℕ) (at b : ℕ) → at < length s → get_or s at 0 ≡ b → StandsAt s at (b ∷ [])
says_byte s at b h e = says_made s at (b ∷ []) (drop (suc at) s) (drop-cons s at 0 h ∙ ap (λ (x : ℕ). x ∷ drop (suc at) s) e)

-- bytes that make the number that the word's make
pub says_little : (s : List ℕ) (at : ℕ) (w : List ℕ) → at + length w ≤ length s → Below 256 s → Below 256 w
    → little (take (length w) (drop at s)) ≡ little w → StandsAt s at w
says_little s at w h a b e =
    let p : length (take (length w) (drop at s)) ≡ length w = length-take-le (length w) (drop at s) (rw (length-drop at s) (omega arith)) in
    record { is = little_same (take (length w) (drop at s)) w p (below_take 256 (length w) (drop at s) (omega arith) (below_drop 256 at s a)) b e }

-- four of them
pub says_four : (s : List ℕ) (at : ℕ) (w : List ℕ) → at + 4 ≤ length s → length w ≡ 4 → Below 256 s → Below 256 w
    → little (take 4 (drop at s)) ≡ little (take 4 w) → StandsAt s at w
says_four s at w h l a b e =
    says_little s at w (omega arith) a b (ap (λ (n : ℕ). little (take n (drop at s))) l ∙ e ∙ ap little (take_all 4 w (omega arith)))

-- a number that is read from a part, after a name of so many bytes
pub field_stands : (s : List ℕ) (at name n m v : ℕ) → m ≡ n → at + name + n ≤ length s → read_decimal (take m (drop (at + name) s)) ≡ Some v
    → (w : List ℕ) → length w ≡ name → StandsAt s at w → FieldAt s at w v (name + n)
field_stands s at name n m v z h e w q k =
    let d : ℕ = at + name in
    let p = read_decimal_lem (take m (drop d s)) v e in
    let l : length (take m (drop d s)) ≡ n = length-take-le m (drop d s) (rw (length-drop d s) (omega arith)) ∙ z in
    let f : length (decimal v) ≡ n = ap length (sym p.is) ∙ l in
    let u : take (length (decimal v)) (drop d s) ≡ decimal v = ap (λ (i : ℕ). take i (drop d s)) (f ∙ sym z) ∙ p.is in
    record {
      says = says_both s at d w (decimal v) (ap (λ (i : ℕ). at + i) (sym q)) k (record { is = u });
      long = length-append w (decimal v) ∙ omega arith;
      short = p.short;
    }
