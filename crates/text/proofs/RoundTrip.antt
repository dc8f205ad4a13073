-- The text of a record is taken, and nothing else is. Assumes nothing.
use mathlib.Core.Path.{◌≡◌, refl, sym, ap, ap₂, subst, ◌∙◌}
use mathlib.Core.Bool.{Bool, true, false, cond, not}
use mathlib.Core.List.{List, [], ◌∷◌, ◌++◌}
use Prim.Native.Nat.{ℕ, zero, suc, ◌/◌, ◌^◌, ◌≤◌, ◌<◌}
use native.Mathlib.Omega.{arith}
use lib.Dec.{leb, ltb, eqb}
use lib.ListN.{length, get_or, drop, length-append}
use lib.Seq.{drop-append_seam}
use borrow.Author.Tests.{leb-true, ltb-true, eqb-true, eqb-false, ne_eqb, not-false}
use Rattle.std.proofs.lemmas.Option.{none-some}
use Rattle.std.specs.Prelude.{Option, Some, None}
use Rattle.theory.specs.declared.record.Record.{Record}
use Rattle.theory.specs.basics.Turns.{turns, any_below}
use Rattle.theory.specs.order.Recording.{loss_mark}
use Rattle.theory.proofs.acceptance.Rows.{none_below}
use Rattle.text.specs.Bytes.{index_of, up_to, after, starts_with, is_word}
use Rattle.text.specs.LineForm.{digits, read_decimal, words, op_name, task_name, on_name, tasks_name, space, place_of, named_kind, field_by, field_of, act_record, mark_record}
use Rattle.text.specs.LineForm.{parse_act, parse_mark, rest_of, parse_of, word_of, text_of, Sayable, TextTaken, OnlyText, OnlySayable, LongRefused}
use Rattle.text.specs.Printing.{last_digit, last_digits, width, decimal}
use Rattle.text.proofs.Bytes.{Without, without_cons, without_append, before_seam, after_seam, joined, word_split, word_starts, is_the_word}
use Rattle.text.proofs.Digits.{decimal_fits}
use Rattle.text.proofs.Numerals.{let_through, decimal_read, read_decimal_lem}
use Rattle.text.proofs.LineForm.{rest_act}

-- What is taken

-- a field is its name and what is read
pub field_by_lem : (read : List ℕ → Option ℕ) (name s : List ℕ) (n : ℕ) → field_by read name s ≡ Some n → (t : List ℕ) × (s ≡ name ++ t) × (read t ≡ Some n)
field_by_lem read name s n e =
    let (f, g) = let_through (starts_with name s) (read (drop (length name) s)) n e in
    (drop (length name) s, word_split name s f, g)

-- where that is a number of at most 5 digits, without needless zeros
pub record FieldRead (name s : List ℕ) (n : ℕ) : Type 0 where
  pub is : s ≡ name ++ decimal n
  pub short : n < 10 ^ digits

pub field_is : (name s : List ℕ) (n : ℕ) → field_of name s ≡ Some n → FieldRead name s n
unfolding field_of
field_is name s n e =
    let (t, f, g) = field_by_lem read_decimal name s n e in
    let p = read_decimal_lem t n g in
    record { is = f ∙ ap (λ (l : List ℕ). name ++ l) p.is; short = p.short }

word_at : (ws : List (List ℕ)) (s : List ℕ) → place_of ws s < length ws → s ≡ get_or ws (place_of ws s) []
unfolding place_of
word_at [] s h = absurd (omega arith)
word_at (w ∷ ws) s h = picked (is_word w s) refl h (word_at ws s)
  where
    picked : (t : Bool) → is_word w s ≡ t → cond t zero (suc (place_of ws s)) < suc (length ws)
        → (place_of ws s < length ws → s ≡ get_or ws (place_of ws s) []) → s ≡ get_or (w ∷ ws) (cond t zero (suc (place_of ws s))) []
    picked true e h ih = is_the_word w s e
    picked false e h ih = ih (omega arith)

-- a first word that names a kind is `op=` and the kind's word
pub op_is : (s : List ℕ) → named_kind s < length words → s ≡ op_name ++ word_of (named_kind s)
unfolding named_kind
op_is s h = picked (starts_with op_name s) refl h
  where
    picked : (t : Bool) → starts_with op_name s ≡ t → cond t (place_of words (drop 3 s)) (length words) < length words
        → s ≡ op_name ++ word_of (cond t (place_of words (drop 3 s)) (length words))
    picked true e h = word_split op_name s e ∙ ap (λ (l : List ℕ). op_name ++ l) (word_at words (drop 3 s) h)
    picked false e h = absurd (omega arith)

pub act_text : (k t n : ℕ) → (k ≡ loss_mark → ⊥)
    → text_of (record { kind = k; task = t; on = n }) ≡ (op_name ++ word_of k) ++ (space ∷ ((task_name ++ decimal t) ++ (space ∷ (on_name ++ decimal n))))
unfolding text_of
act_text k t n h = rw (ne_eqb k loss_mark h)

mark_text : (t n : ℕ) → text_of (record { kind = loss_mark; task = t; on = n }) ≡ (op_name ++ word_of loss_mark) ++ (space ∷ (tasks_name ++ decimal n))
unfolding text_of
mark_text t n = refl

-- the line of an act, from its three words
act_joined : (s : List ℕ) (k t n : ℕ) → (k ≡ loss_mark → ⊥) → up_to space s ≡ op_name ++ word_of k → up_to space (after space s) ≡ task_name ++ decimal t
    → after space (after space s) ≡ on_name ++ decimal n → s ≡ text_of (record { kind = k; task = t; on = n })
act_joined s k t n h e f g =
    let a = after space s in
    let p : a ≡ (task_name ++ decimal t) ++ (space ∷ (on_name ++ decimal n)) = joined space a (task_name ++ decimal t) (on_name ++ decimal n) f g (omega arith) in
    joined space s (op_name ++ word_of k) ((task_name ++ decimal t) ++ (space ∷ (on_name ++ decimal n))) e p (omega arith) ∙ sym (act_text k t n h)

mark_joined : (s : List ℕ) (t n : ℕ) → up_to space s ≡ op_name ++ word_of loss_mark → after space s ≡ tasks_name ++ decimal n
    → s ≡ text_of (record { kind = loss_mark; task = t; on = n })
mark_joined s t n e f =
    joined space s (op_name ++ word_of loss_mark) (tasks_name ++ decimal n) e f (omega arith) ∙ sym (mark_text t n)

-- what a line that is taken is
record Said (s : List ℕ) (r : Record) : Type 0 where
  is : s ≡ text_of r
  can : Sayable r

act_said : (s : List ℕ) (k : ℕ) → k ≡ named_kind (up_to space s) → k < length words → (k ≡ loss_mark → ⊥) → (x y : Option ℕ) → field_of task_name (up_to space (after space s)) ≡ x
    → field_of on_name (after space (after space s)) ≡ y → (r : Record) → act_record k x y ≡ Some r → Said s r
act_said s k q l h (Some t) (Some n) f g r e =
    let same : record { kind = k; task = t; on = n } ≡ r = cc in
    let w : up_to space s ≡ op_name ++ word_of k = rw q (op_is (up_to space s) (omega arith)) in
    let a = field_is task_name (up_to space (after space s)) t f in
    let b = field_is on_name (after space (after space s)) n g in
    record {
      is = act_joined s k t n h w a.is b.is ∙ ap text_of same;
      can = subst Sayable same (record { kind_known = l; task_short = a.short; on_short = b.short; mark_alone = λ z. absurd (h z) });
    }
act_said s k q l h (Some t) None f g r e = absurd (none-some r e)
act_said s k q l h None y f g r e = absurd (none-some r e)

mark_said : (s : List ℕ) → named_kind (up_to space s) ≡ loss_mark → (x : Option ℕ) → field_of tasks_name (after space s) ≡ x
    → (r : Record) → mark_record x ≡ Some r → Said s r
mark_said s q (Some n) f r e =
    let same : record { kind = loss_mark; task = 0; on = n } ≡ r = cc in
    let w : up_to space s ≡ op_name ++ word_of loss_mark = op_is (up_to space s) (omega arith) ∙ ap (λ (k : ℕ). op_name ++ word_of k) q in
    let b = field_is tasks_name (after space s) n f in
    record {
      is = mark_joined s 0 n w b.is ∙ ap text_of same;
      can = subst Sayable same (record { kind_known = omega arith; task_short = omega arith; on_short = b.short; mark_alone = λ z. refl });
    }
mark_said s q None f r e = absurd (none-some r e)

said : (s : List ℕ) (r : Record) → parse_of s ≡ Some r → Said s r
unfolding parse_of parse_act parse_mark
said s r e = picked (ltb (named_kind (up_to space s)) (length words)) refl (eqb (named_kind (up_to space s)) loss_mark) refl e
  where
    picked : (t : Bool) → ltb (named_kind (up_to space s)) (length words) ≡ t → (b : Bool) → eqb (named_kind (up_to space s)) loss_mark ≡ b
        → cond t (cond b (parse_mark (after space s)) (parse_act (named_kind (up_to space s)) (after space s))) None ≡ Some r → Said s r
    picked true f true g e = mark_said s (eqb-true (named_kind (up_to space s)) loss_mark g) (field_of tasks_name (after space s)) refl r e
    picked true f false g e = act_said s (named_kind (up_to space s)) refl (ltb-true (named_kind (up_to space s)) (length words) f) (eqb-false (named_kind (up_to space s)) loss_mark g)
        (field_of task_name (up_to space (after space s))) (field_of on_name (after space (after space s))) refl refl r e
    picked false f b g e = absurd (none-some r e)

pub only_text : OnlyText
only_text s r e = (said s r e).is

pub only_sayable : OnlySayable
only_sayable s r e = (said s r e).can

-- Kinds and their words

-- a test that each number below n passes, by trying them
pub each_below : (n : ℕ) (p : ℕ → Bool) → any_below n (λ k. not (p k)) ≡ false → (k : ℕ) → k < n → p k ≡ true
each_below n p e k h = not-false (p k) (none_below n (λ k. not (p k)) e k h)

-- and each kind's word
pub each_word : (p : ℕ → Bool) → any_below (length words) (λ k. not (p k)) ≡ false → (k : ℕ) → k < length words → p k ≡ true
each_word = each_below (length words)

pub op_kind : (k : ℕ) → k < length words → named_kind (op_name ++ word_of k) ≡ k
unfolding turns named_kind place_of is_word starts_with
op_kind k h = eqb-true _ _ (each_word (λ k. eqb (named_kind (op_name ++ word_of k)) k) refl k h)

pub op_whole : (k : ℕ) → k < length words → Without space (op_name ++ word_of k)
unfolding turns index_of
op_whole k h = eqb-true _ _ (each_word (λ k. eqb (index_of space (op_name ++ word_of k)) (length (op_name ++ word_of k))) refl k h)

word_short : (k : ℕ) → k < length words → length (word_of k) ≤ 5
unfolding turns
word_short k h = leb-true _ _ (each_word (λ k. leb (length (word_of k)) 5) refl k h)

-- No line is long

text_short : (r : Record) → Sayable r → length (text_of r) ≤ 28
unfolding text_of
text_short r h = picked (eqb r.kind loss_mark)
  where
    picked : (t : Bool)
        → length (op_name ++ (word_of r.kind ++ (space ∷ cond t (tasks_name ++ decimal r.on) (task_name ++ (decimal r.task ++ (space ∷ (on_name ++ decimal r.on))))))) ≤ 28
    picked true = simp length-append (omega (arith, word_short r.kind h.kind_known, decimal_fits 4 r.on h.on_short))
    picked false = simp length-append (omega (arith, word_short r.kind h.kind_known, decimal_fits 4 r.on h.on_short, decimal_fits 4 r.task h.task_short))

pub long_refused : LongRefused
long_refused s h = picked (parse_of s) refl
  where
    picked : (p : Option Record) → parse_of s ≡ p → parse_of s ≡ None
    picked (Some r) e = absurd (omega (arith, ap length (only_text s r e), text_short r (only_sayable s r e)))
    picked None e = e

-- The text of a record is taken

pub field_read_by : (read : List ℕ → Option ℕ) (name t : List ℕ) (n : ℕ) → read t ≡ Some n → field_by read name (name ++ t) ≡ Some n
field_read_by read name t n e = rw (word_starts name t, drop-append_seam name t) e

pub field_read : (name : List ℕ) (n : ℕ) → n < 10 ^ digits → field_of name (name ++ decimal n) ≡ Some n
unfolding field_of
field_read name n h = field_read_by read_decimal name (decimal n) n (decimal_read n h)

pub digits_whole : (b k n : ℕ) → b < 48 → Without b (last_digits k n)
unfolding last_digits index_of
digits_whole b zero n h = refl
digits_whole b (suc k) n h = without_cons b (last_digit (n / 10 ^ k)) (last_digits k n) (λ e. omega arith) (digits_whole b k n h)

-- no byte below the digits is in the text of a number
pub decimal_whole : (b n : ℕ) → b < 48 → Without b (decimal n)
unfolding decimal
decimal_whole b n h = digits_whole b (width n) n h

pub field_whole : (name : List ℕ) (n : ℕ) → Without space name → Without space (name ++ decimal n)
field_whole name n h = without_append space name (decimal n) h (decimal_whole space n (omega arith))

parse_words : (w s : List ℕ) → Without space w → parse_of (w ++ (space ∷ s)) ≡ rest_of (named_kind w) s
unfolding parse_of
parse_words w s h = ap₂ (λ (x : List ℕ) (y : List ℕ). rest_of (named_kind x) y) (before_seam space w s h) (after_seam space w s h)

act_words : (k : ℕ) (w s : List ℕ) → Without space w → parse_act k (w ++ (space ∷ s)) ≡ act_record k (field_of task_name w) (field_of on_name s)
unfolding parse_act
act_words k w s h = ap₂ (λ (x : List ℕ) (y : List ℕ). act_record k (field_of task_name x) (field_of on_name y)) (before_seam space w s h) (after_seam space w s h)

act_taken : (k t n : ℕ) → k < length words → (k ≡ loss_mark → ⊥) → t < 10 ^ digits → n < 10 ^ digits
    → parse_of (text_of (record { kind = k; task = t; on = n })) ≡ Some (record { kind = k; task = t; on = n })
unfolding index_of
act_taken k t n l h f g =
    let rest = (task_name ++ decimal t) ++ (space ∷ (on_name ++ decimal n)) in
    ap parse_of (act_text k t n h)
    ∙ parse_words (op_name ++ word_of k) rest (op_whole k l)
    ∙ ap (λ (j : ℕ). rest_of j rest) (op_kind k l)
    ∙ rest_act k rest l h
    ∙ act_words k (task_name ++ decimal t) (on_name ++ decimal n) (field_whole task_name t refl)
    ∙ ap₂ (act_record k) (field_read task_name t f) (field_read on_name n g)

mark_taken : (n : ℕ) → n < 10 ^ digits
    → parse_of (text_of (record { kind = loss_mark; task = 0; on = n })) ≡ Some (record { kind = loss_mark; task = 0; on = n })
unfolding parse_mark
mark_taken n h =
    let rest = tasks_name ++ decimal n in
    ap parse_of (mark_text 0 n)
    ∙ parse_words (op_name ++ word_of loss_mark) rest (op_whole loss_mark (omega arith))
    ∙ ap (λ (j : ℕ). rest_of j rest) (op_kind loss_mark (omega arith))
    ∙ ap mark_record (field_read tasks_name n h)

pub text_taken : TextTaken
text_taken r h = picked (eqb r.kind loss_mark) refl
  where
    picked : (t : Bool) → eqb r.kind loss_mark ≡ t → parse_of (text_of r) ≡ Some r
    picked true e =
        let k : r.kind ≡ loss_mark = eqb-true r.kind loss_mark e in
        let z : r.task ≡ 0 = h.mark_alone k in
        let q : record { kind = loss_mark; task = 0; on = r.on } ≡ r = λ i. record { kind = sym k i; task = sym z i; on = r.on } in
        subst (λ (x : Record). parse_of (text_of x) ≡ Some x) q (mark_taken r.on h.on_short)
    picked false e = act_taken r.kind r.task r.on h.kind_known (eqb-false r.kind loss_mark e) h.task_short h.on_short
