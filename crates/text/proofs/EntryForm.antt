-- The text of an entry is taken, and nothing else is. Assumes nothing.
use mathlib.Core.Path.{◌≡◌, refl, sym, ap, subst, ◌∙◌}
use mathlib.Core.Bool.{Bool, true, false, cond, ◌||◌}
use mathlib.Core.Logic.{◌⊎◌, inl, inr}
use mathlib.Core.List.{List, ◌∷◌, ◌++◌, append_assoc}
use Prim.Native.Nat.{ℕ, zero, suc, ◌+◌, ◌-◌, ◌^◌, ◌≤◌, ◌<◌}
use native.Mathlib.Nat.{div-eq_of_lt}
use native.Mathlib.Omega.{arith}
use lib.Dec.{ltb, eqb}
use lib.ListN.{length, take, drop, length-append}
use lib.Seq.{drop-drop}
use borrow.Author.Tests.{eqb-true}
use Rattle.std.proofs.lemmas.Option.{none-some, same_Some}
use Rattle.std.specs.Prelude.{Option, Some, None}
use Rattle.theory.specs.order.Limits.{tasks, variables, records}
use Rattle.theory.proofs.basics.Reflects.{Reflects, right, wrong, both, same_as, at_most}
use Rattle.text.specs.declared.entry.Entry.{Entry}
use Rattle.text.specs.Bytes.{index_of, up_to, after, starts_with, is_word}
use Rattle.text.specs.LineForm.{read_digits, space, field_of}
use Rattle.text.specs.EntryForm.{after_spaces, word_after, rec_name, var_name, low_name, high_name, mark_word, fewer_digits, record_wide, read_record_number, record_field, in_range, within_range}
use Rattle.text.specs.EntryForm.{marked_entry, entry_by, entry_of, entry_text, InForm, EntryTaken, OnlyEntryText, OnlyInForm, LongEntry, TextOf, EntryWritten}
use Rattle.text.specs.Printing.{bytes, last_digits, width_in, width, decimal, record_digits}
use Rattle.text.proofs.Bytes.{Without, without_append, before_seam, after_seam, joined, is_the_word}
use Rattle.text.proofs.Digits.{none_above, digits_long, decimal_fits}
use Rattle.text.proofs.LineForm.{cut_before}
use Rattle.text.proofs.Numerals.{let_through, read_above, read_printed, printed_read}
use Rattle.text.proofs.RoundTrip.{field_by_lem, field_is, field_read_by, field_read, digits_whole, field_whole}

-- Record numbers

abbrev Wide : ℕ → Type 0
Wide k = (k ≡ fewer_digits) ⊎ (k ≡ record_digits)

wide_digits : (k : ℕ) → record_wide k ≡ true → Wide k
unfolding record_wide
wide_digits k e = picked (eqb k fewer_digits) refl e
  where
    picked : (t : Bool) → eqb k fewer_digits ≡ t → (t || eqb k record_digits) ≡ true → Wide k
    picked true f e = inl (eqb-true k fewer_digits f)
    picked false f e = inr (eqb-true k record_digits e)

digits_wide : (k : ℕ) → Wide k → record_wide k ≡ true
unfolding record_wide
digits_wide k (inl e) = rw e
digits_wide k (inr e) = rw e

-- five digits or seven, enough for the number, which is the last that they say
record InDigits (name s : List ℕ) (n : ℕ) : Type 0 where
  count : ℕ
  wide : Wide count
  enough : n < 10 ^ count
  is : s ≡ name ++ last_digits count n

record_is : (s : List ℕ) (n : ℕ) → record_field s ≡ Some n → InDigits rec_name s n
unfolding record_field read_record_number
record_is s n e =
    let (t, f, g) = field_by_lem read_record_number rec_name s n e in
    let (w, r) = let_through (record_wide (length t)) (read_digits 0 t) n g in
    record {
      count = length t;
      wide = wide_digits (length t) w;
      enough = none_above n (length t) (read_above 0 n t r);
      is = f ∙ ap (λ (l : List ℕ). rec_name ++ l) (read_printed 0 n t r);
    }

in_digits : (k n : ℕ) → Wide k → n < 10 ^ k → read_record_number (last_digits k n) ≡ Some n
unfolding read_record_number
in_digits k n w h = rw (digits_long k n, digits_wide k w) (printed_read 0 n k (sym (div-eq_of_lt h)))

record_read : (k n : ℕ) → Wide k → n < 10 ^ k → record_field (rec_name ++ last_digits k n) ≡ Some n
unfolding record_field
record_read k n w h = field_read_by read_record_number rec_name (last_digits k n) n (in_digits k n w h)

-- Ranges

ranges : (e : Entry) → Reflects (InForm e) (in_range e)
unfolding in_range
ranges e =
    same_as
    (λ p. record { rec_some = p.0; rec_within = p.1.0; var_within = p.1.1.0; low_lower = p.1.1.1.0; high_within = p.1.1.1.1 })
    (λ h. (h.rec_some, (h.rec_within, (h.var_within, (h.low_lower, h.high_within)))))
    (both (below 0 e.rec) (both (at_most e.rec records) (both (below e.var variables) (both (below e.low e.high) (below e.high tasks)))))
  where
    below : (m n : ℕ) → Reflects (m < n) (ltb m n)
    below m n = at_most (suc m) n

within_range_lem : (e f : Entry) → within_range e ≡ Some f → (e ≡ f) × InForm e
unfolding within_range
within_range_lem e f h = decided (ranges e) h
  where
    decided : {b : Bool} → Reflects (InForm e) b → cond b (Some e) None ≡ Some f → (e ≡ f) × InForm e
    decided (right i) h = (same_Some e f h, i)
    decided (wrong n) h = absurd (none-some f h)

range_within : (e : Entry) → InForm e → within_range e ≡ Some e
unfolding within_range
range_within e h = decided (ranges e)
  where
    decided : {b : Bool} → Reflects (InForm e) b → cond b (Some e) None ≡ Some e
    decided (right i) = refl
    decided (wrong n) = absurd (n h)

-- What is taken

-- what a line that is taken is
record Said (s : List ℕ) (e : Entry) : Type 0 where
  is : TextOf e s
  can : InForm e

-- the last word is the mark of the entry
marked : (rec var low high : ℕ) (s : List ℕ) (e : Entry) → marked_entry rec var low high s ≡ Some e
    → (t : Bool) × (s ≡ mark_word t) × (record { rec = rec; var = var; low = low; high = high; accepted = t } ≡ e) × InForm e
unfolding marked_entry
marked rec var low high s e h = picked (is_word (mark_word true) s) (is_word (mark_word false) s) refl refl h
  where
    made : Bool → Entry
    made t = record { rec = rec; var = var; low = low; high = high; accepted = t }

    picked : (t u : Bool) → is_word (mark_word true) s ≡ t → is_word (mark_word false) s ≡ u → cond (t || u) (within_range (made t)) None ≡ Some e
        → (t : Bool) × (s ≡ mark_word t) × (made t ≡ e) × InForm e
    picked true u f g h = let (q, i) = within_range_lem (made true) e h in (true, is_the_word (mark_word true) s f, q, subst InForm q i)
    picked false true f g h = let (q, i) = within_range_lem (made false) e h in (false, is_the_word (mark_word false) s g, q, subst InForm q i)
    picked false false f g h = absurd (none-some e h)

-- what follows k spaces, from its first word and what follows one space more
spaced : (k : ℕ) (s w t : List ℕ) → word_after k s ≡ w → after_spaces (suc k) s ≡ t → 0 < length t → after_spaces k s ≡ w ++ (space ∷ t)
unfolding word_after after_spaces
spaced zero s w t e f h = joined space s w t e f h
spaced (suc k) s w t e f h = spaced k (after space s) w t e f h

mark_long : (t : Bool) → (0 < length (mark_word t)) × (length (mark_word t) ≤ 13)
mark_long true = (omega arith, omega arith)
mark_long false = (omega arith, omega arith)

-- the words of a text, and what it is from each of them on
abbrev rec_word : ℕ → Entry → List ℕ
rec_word k e = rec_name ++ last_digits k e.rec

abbrev var_word : Entry → List ℕ
var_word e = var_name ++ decimal e.var

abbrev low_word : Entry → List ℕ
low_word e = low_name ++ decimal e.low

abbrev high_word : Entry → List ℕ
high_word e = high_name ++ decimal e.high

abbrev from_mark : Entry → List ℕ
from_mark e = mark_word e.accepted

abbrev from_high : Entry → List ℕ
from_high e = high_word e ++ (space ∷ from_mark e)

abbrev from_low : Entry → List ℕ
from_low e = low_word e ++ (space ∷ from_high e)

abbrev from_var : Entry → List ℕ
from_var e = var_word e ++ (space ∷ from_low e)

entry_text_lem : (k : ℕ) (e : Entry) → entry_text k e ≡ rec_word k e ++ (space ∷ from_var e)
unfolding entry_text
entry_text_lem k e = simp append_assoc

-- the line of an entry, from its words
entry_joined : (s : List ℕ) (k : ℕ) (e : Entry) → word_after 0 s ≡ rec_word k e → word_after 1 s ≡ var_word e → word_after 2 s ≡ low_word e → word_after 3 s ≡ high_word e
    → after_spaces 4 s ≡ from_mark e → s ≡ entry_text k e
unfolding after_spaces
entry_joined s k e a b c d m =
    let p = spaced 3 s (high_word e) (from_mark e) d m (mark_long e.accepted).0 in
    let q = spaced 2 s (low_word e) (from_high e) c p (omega arith) in
    let r = spaced 1 s (var_word e) (from_low e) b q (omega arith) in
    spaced 0 s (rec_word k e) (from_var e) a r (omega arith) ∙ sym (entry_text_lem k e)

fields_said : (s : List ℕ) (e : Entry) (x y z w : Option ℕ) → record_field (word_after 0 s) ≡ x → field_of var_name (word_after 1 s) ≡ y → field_of low_name (word_after 2 s) ≡ z
    → field_of high_name (word_after 3 s) ≡ w → entry_by x y z w (after_spaces 4 s) ≡ Some e → Said s e
fields_said s e (Some rec) (Some var) (Some low) (Some high) a b c d h =
    let (t, m, q, i) = marked rec var low high (after_spaces 4 s) e h in
    let r = record_is (word_after 0 s) rec a in
    record {
      is = subst (λ (f : Entry). TextOf f s) q (record {
        count = r.count;
        five_or_seven = r.wide;
        enough = r.enough;
        is = entry_joined s r.count (record { rec = rec; var = var; low = low; high = high; accepted = t })
            r.is (field_is var_name (word_after 1 s) var b).is (field_is low_name (word_after 2 s) low c).is
            (field_is high_name (word_after 3 s) high d).is m;
      });
      can = i;
    }
fields_said s e (Some rec) (Some var) (Some low) None a b c d h = absurd (none-some e h)
fields_said s e (Some rec) (Some var) None w a b c d h = absurd (none-some e h)
fields_said s e (Some rec) None z w a b c d h = absurd (none-some e h)
fields_said s e None y z w a b c d h = absurd (none-some e h)

said : (s : List ℕ) (e : Entry) → entry_of s ≡ Some e → Said s e
unfolding entry_of
said s e h =
    fields_said s e (record_field (word_after 0 s)) (field_of var_name (word_after 1 s)) (field_of low_name (word_after 2 s)) (field_of high_name (word_after 3 s)) refl refl refl refl h

pub only_entry_text : OnlyEntryText
only_entry_text s e h = (said s e h).is

pub only_in_form : OnlyInForm
only_in_form s e h = (said s e h).can

-- No entry is long

wide_most : (k : ℕ) → Wide k → k ≤ record_digits
wide_most k (inl e) = omega arith
wide_most k (inr e) = omega arith

pub wide_fits : (k : ℕ) → record_wide k ≡ true → k ≤ record_digits
wide_fits k e = wide_most k (wide_digits k e)

entry_short : (k : ℕ) (e : Entry) → Wide k → InForm e → length (entry_text k e) ≤ 40 + record_digits
unfolding entry_text
entry_short k e w h =
    simp length-append (omega (
      arith,
      digits_long k e.rec,
      wide_most k w,
      decimal_fits 1 e.var (omega arith),
      decimal_fits 1 e.low (omega arith),
      decimal_fits 1 e.high (omega arith),
      (mark_long e.accepted).1,
    ))

pub long_entry : LongEntry
long_entry s h = picked (entry_of s) refl
  where
    picked : (x : Option Entry) → entry_of s ≡ x → entry_of s ≡ None
    picked (Some e) f =
        let t = only_entry_text s e f in
        absurd (omega (arith, ap length t.is, entry_short t.count e t.five_or_seven (only_in_form s e f)))
    picked None f = f

-- The text of an entry is taken

no_spaces : (s : List ℕ) → after_spaces 0 s ≡ s
unfolding after_spaces
no_spaces s = refl

word_first : (w s : List ℕ) → Without space w → word_after 0 (w ++ (space ∷ s)) ≡ w
unfolding word_after after_spaces
word_first w s h = before_seam space w s h

spaces_next : (k : ℕ) (w s : List ℕ) → Without space w → after_spaces (suc k) (w ++ (space ∷ s)) ≡ after_spaces k s
unfolding after_spaces
spaces_next k w s h = ap (after_spaces k) (after_seam space w s h)

word_next : (k : ℕ) (w s : List ℕ) → Without space w → word_after (suc k) (w ++ (space ∷ s)) ≡ word_after k s
unfolding word_after
word_next k w s h = ap (up_to space) (spaces_next k w s h)

-- a line of five words
module _ (a b c d m : List ℕ) (i : Without space a) (j : Without space b) (k : Without space c) (l : Without space d) where
  words_read : entry_of (a ++ (space ∷ (b ++ (space ∷ (c ++ (space ∷ (d ++ (space ∷ m))))))))
      ≡ entry_by (record_field a) (field_of var_name b) (field_of low_name c) (field_of high_name d) m
  unfolding entry_of
  words_read = simp (word_first, word_next 0, word_next 1, word_next 2, spaces_next 0, spaces_next 1, spaces_next 2, spaces_next 3, no_spaces)

record_whole : (k n : ℕ) → Without space (rec_name ++ last_digits k n)
unfolding index_of
record_whole k n = without_append space rec_name (last_digits k n) refl (digits_whole space k n (omega arith))

mark_read : (rec var low high : ℕ) (t : Bool) → marked_entry rec var low high (mark_word t) ≡ within_range (record { rec = rec; var = var; low = low; high = high; accepted = t })
unfolding marked_entry is_word starts_with
mark_read rec var low high true = refl
mark_read rec var low high false = refl

pub entry_taken : EntryTaken
unfolding index_of
entry_taken e h line t =
    ap entry_of (t.is ∙ entry_text_lem t.count e)
    ∙ words_read (rec_word t.count e) (var_word e) (low_word e) (high_word e) (from_mark e)
    (record_whole t.count e.rec) (field_whole var_name e.var refl) (field_whole low_name e.low refl) (field_whole high_name e.high refl)
    ∙ rw (record_read t.count e.rec t.five_or_seven t.enough, field_read var_name e.var (omega arith), field_read low_name e.low (omega arith), field_read high_name e.high (omega arith))
    (mark_read e.rec e.var e.low e.high e.accepted ∙ range_within e h)

pub entry_written : EntryWritten
entry_written e h = record { count = record_digits; five_or_seven = inr refl; enough = omega (arith, h.rec_within); is = refl }

-- What the code has

-- at a place of a line with n spaces left to pass, the next of them at e: they are passed from place p on
pub spaces_passed : (n : ℕ) (s : List ℕ) (at e p : ℕ) → 0 < n → e ≡ at + index_of space (drop at s) → drop p s ≡ drop (suc e) s
    → after_spaces n (drop at s) ≡ after_spaces (n - 1) (drop p s)
unfolding after_spaces
spaces_passed zero s at e p h c q = absurd (omega arith)
spaces_passed (suc n) s at e p h c q =
    let z : suc n - 1 ≡ n = omega arith in
    let f : at + suc (index_of space (drop at s)) ≡ suc e = omega arith in
    rw z (ap (after_spaces n) (drop-drop (suc (index_of space (drop at s))) at s ∙ ap (λ (k : ℕ). drop k s) f ∙ sym q))

pub spaces_all : (n : ℕ) (s : List ℕ) → n ≡ 0 → after_spaces n s ≡ s
spaces_all n s h = rw h (no_spaces s)

-- the word is cut at e
pub word_cut : (k : ℕ) (s t : List ℕ) (e : ℕ) → t ≡ after_spaces k s → e ≡ 0 + index_of space t → take e t ≡ word_after k s
unfolding word_after
word_cut k s t e q c = cut_before t e 0 c ∙ ap (up_to space) q

-- the last word is one of the two marks
pub mark_known : (rec var low high : ℕ) (s : List ℕ) (t : Bool) → t ≡ is_word (mark_word true) s → (t || is_word (mark_word false) s) ≡ true
    → marked_entry rec var low high s ≡ within_range (record { rec = rec; var = var; low = low; high = high; accepted = t })
unfolding marked_entry
mark_known rec var low high s t e f = rw (← e, f)

-- what the fields say is what the line says
pub fields_read : (s : List ℕ) {x y z w : Option ℕ} → record_field (word_after 0 s) ≡ x → field_of var_name (word_after 1 s) ≡ y → field_of low_name (word_after 2 s) ≡ z
    → field_of high_name (word_after 3 s) ≡ w → entry_of s ≡ entry_by x y z w (after_spaces 4 s)
unfolding entry_of
fields_read s a b c d = rw (a, b, c, d)

-- The two lines of document 02

accepted : entry_text fewer_digits (record { rec = 12; var = 5; low = 1; high = 3; accepted = true }) ≡ bytes "rec=00012 var=5 low=1 high=3 mark=accepted"
unfolding entry_text decimal width width_in last_digits
accepted = refl

opened : entry_text record_digits (record { rec = 12; var = 5; low = 1; high = 3; accepted = false }) ≡ bytes "rec=0000012 var=5 low=1 high=3 mark=open"
unfolding entry_text decimal width width_in last_digits
opened = refl
