-- The bytes of a word, and what is written over. Assumes nothing.
use mathlib.Core.Bool.{true}
use mathlib.Core.Path.{◌≡◌, refl, sym, ap, ap₂, ◌∙◌}
use mathlib.Core.List.{List, [], ◌∷◌, ◌++◌, append_assoc}
use Prim.Native.Nat.{ℕ, zero, suc, ◌+◌, ◌*◌, ◌/◌, ◌%◌, ◌≤◌, ◌<◌}
use native.Mathlib.Nat.{div-div-eq-div-mul}
use native.Mathlib.Omega.{arith}
use lib.ListN.{length, set, length-append}
use lib.Seq.{sets, set-set, set_comm}
use Rattle.text.specs.Bytes.{little}
use Rattle.text.specs.Printing.{bytes, last_digits, record_digits, record_text}
use Rattle.text.specs.Words.{little_bytes, number_word, Opens}
use Rattle.text.specs.ReportLines.{access_part, access_line}
use Rattle.text.specs.Wrote.{Wrote}
use Rattle.text.proofs.Bytes.{Below, all_below, all_below_lem}
use Rattle.text.proofs.Digits.{digits_long}
use Rattle.text.proofs.Wrote.{sets_append, ◌then◌}

-- a number of bytes has those bytes
pub bytes_little : (bs : List ℕ) → Below 256 bs → little_bytes (length bs) (little bs) ≡ bs
unfolding little_bytes little
bytes_little [] b = refl
bytes_little (x ∷ bs) b =
    let p : x < 256 = b zero in
    let e : (x + 256 * little bs) % 256 ≡ x = omega arith in
    let f : (x + 256 * little bs) / 256 ≡ little bs = omega arith in
    rw (e, f) (ap (λ (l : List ℕ). x ∷ l) (bytes_little bs (λ i. b (suc i))))

-- Over what was written before

set_sets : (l : List ℕ) (i k : ℕ) (x : ℕ) (bs : List ℕ) → i < k → set (sets l k bs) i x ≡ sets (set l i x) k bs
set_sets l i k x [] h = refl
set_sets l i k x (b ∷ bs) h = set_sets (set l k b) i (suc k) x bs (omega arith) ∙ ap (λ (m : List ℕ). sets m (suc k) bs) (set_comm l k i b x (λ e. absurd (omega (arith, e))))

sets_over : (l : List ℕ) (i : ℕ) (old new : List ℕ) → length old ≤ length new → sets (sets l i old) i new ≡ sets l i new
sets_over l i [] new h = refl
sets_over l i (o ∷ old) [] h = absurd (omega arith)
sets_over l i (o ∷ old) (n ∷ new) h =
    ap (λ (m : List ℕ). sets m (suc i) new) (set_sets (set l i o) i (suc i) n old (omega arith) ∙ ap (λ (m : List ℕ). sets m (suc i) old) (set-set l i o n))
    ∙ sets_over (set l i n) (suc i) old new (omega arith)

-- one write, and another from within it that goes at least as far
pub covered : {l l' l'' new : List ℕ} {at to from to' : ℕ} (a old : List ℕ) → Wrote l at (a ++ old) l' to → Wrote l' from new l'' to' → from ≡ at + length a → length old ≤ length new
    → Wrote l at (a ++ new) l'' to'
covered {l} {l'} {l''} {new} {at} a old v w e h =
    record {
      place = omega (arith, w.place, length-append a new);
      memory =
          w.memory
          ∙ ap₂ (λ (m : List ℕ) (k : ℕ). sets m k new) (v.memory ∙ sets_append l at a old) e
          ∙ sets_over (sets l at a) (at + length a) old new h
          ∙ sym (sets_append l at a new);
    }

-- Eight bytes

pub eight_bytes : (w : ℕ)
    → little_bytes 8 w ≡ (w % 256) ∷ (w / 256 % 256) ∷ (w / 65536 % 256) ∷ (w / 16777216 % 256) ∷ (w / 4294967296 % 256) ∷ (w / 1099511627776 % 256)
    ∷ (w / 281474976710656 % 256) ∷ (w / 72057594037927936 % 256) ∷ []
unfolding little_bytes
eight_bytes w =
    rw (
      div-div-eq-div-mul w 256 256,
      div-div-eq-div-mul w 65536 256,
      div-div-eq-div-mul w 16777216 256,
      div-div-eq-div-mul w 4294967296 256,
      div-div-eq-div-mul w 1099511627776 256,
      div-div-eq-div-mul w 281474976710656 256,
    )

pub wrote_eight : {l : List ℕ} {at a b c d e f g h : ℕ}
    → Wrote l at (a ∷ b ∷ c ∷ d ∷ e ∷ f ∷ g ∷ h ∷ [])
    (set (set (set (set (set (set (set (set l at a) (at + 1) b) (at + 2) c) (at + 3) d) (at + 4) e) (at + 5) f) (at + 6) g) (at + 7) h) (at + 8)
wrote_eight {at = at} =
    let p : at + 1 ≡ suc at = omega arith in
    let q : at + 2 ≡ suc (suc at) = omega arith in
    let r : at + 3 ≡ suc (suc (suc at)) = omega arith in
    let s : at + 4 ≡ suc (suc (suc (suc at))) = omega arith in
    let t : at + 5 ≡ suc (suc (suc (suc (suc at)))) = omega arith in
    let u : at + 6 ≡ suc (suc (suc (suc (suc (suc at))))) = omega arith in
    let v : at + 7 ≡ suc (suc (suc (suc (suc (suc (suc at)))))) = omega arith in
    record { place = refl; memory = rw (p, q, r, s, t, u, v) }

-- A record number

digits_below : (k n : ℕ) → Below 256 (last_digits k n)
unfolding last_digits
digits_below zero n i = omega arith
digits_below (suc k) n zero = omega arith
digits_below (suc k) n (suc i) = digits_below k n i

pub number_bytes : (n : ℕ) → little_bytes 8 (number_word n) ≡ bytes "=" ++ record_text n
number_bytes n = ap (λ (k : ℕ). little_bytes (suc k) (number_word n)) (sym (digits_long record_digits n)) ∙ bytes_little (bytes "=" ++ record_text n) below
  where
    below : Below 256 (bytes "=" ++ record_text n)
    below zero = omega arith
    below (suc i) = digits_below record_digits n i

-- A word that begins with a text

pub opens_with : (text rest : List ℕ) → length (text ++ rest) ≡ 8 → all_below 256 (text ++ rest) ≡ true → Opens text (little (text ++ rest)) (length text)
opens_with text rest e b = record { rest = rest; is = refl; eight = e; bytes = all_below_lem 256 (text ++ rest) (omega arith) b; long = refl }

line_parts : (number task variable : ℕ) (verdict : List ℕ) (partner : ℕ)
    → access_line number task variable verdict partner
    ≡ access_part number task variable ++ bytes " verdict" ++ (bytes "=" ++ verdict) ++ bytes " with" ++ (bytes "=" ++ record_text partner) ++ bytes "\n"
unfolding access_line
line_parts number task variable verdict partner = simp append_assoc refl

-- the line of an access, of whose verdict's word more was written than it has
pub line_covered : {l l₁ l₂ l₃ l₄ l₅ l₆ : List ℕ} {at a b c d e x : ℕ} (number task variable : ℕ) (verdict : List ℕ) (partner word len : ℕ)
    → Opens (bytes "=" ++ verdict) word len → 3 ≤ len
    → Wrote l at (access_part number task variable) l₁ a → Wrote l₁ a (bytes " verdict") l₂ b → Wrote l₂ b (little_bytes 8 word) l₃ x → Wrote l₃ (b + len) (bytes " with") l₄ c
    → Wrote l₄ c (bytes "=" ++ record_text partner) l₅ d → Wrote l₅ d (bytes "\n") l₆ e → Wrote l at (access_line number task variable verdict partner) l₆ e
line_covered {l} {l₃ = l₃} {at = at} {b = b} {x = x} number task variable verdict partner word len o h v₁ v₂ v₃ v₄ v₅ v₆ =
    let part : List ℕ = access_part number task variable ++ bytes " verdict" in
    let said : List ℕ = bytes "=" ++ verdict in
    let read : little_bytes 8 word ≡ said ++ o.rest = ap₂ little_bytes (sym o.eight) o.is ∙ bytes_little (said ++ o.rest) o.bytes in
    let long : Wrote l at (part ++ said ++ o.rest) l₃ x = rw (append_assoc part said o.rest) (v₁ then v₂ then (rw read at v₃)) in
    let place : b + len ≡ at + length (part ++ said) = omega (arith, (v₁ then v₂).place, length-append part said, o.long) in
    let rest : length o.rest ≤ 5 = omega (arith, length-append said o.rest, o.eight, o.long) in
    rw (line_parts number task variable verdict partner) (covered (part ++ said) o.rest long v₄ place rest then v₅ then v₆)
