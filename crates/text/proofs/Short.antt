-- A short line, word by word. Assumes nothing.
use mathlib.Core.Path.{◌≡◌, refl, sym, ap, ◌∙◌}
use mathlib.Core.List.{List, [], ◌∷◌, ◌++◌, append_assoc}
use Prim.Native.Nat.{ℕ, ◌+◌, ◌<◌}
use native.Mathlib.Omega.{arith}
use lib.ListN.{length, get_or, drop, length-append, length-drop}
use borrow.Author.Tests.{eqb-true}
use lib.Dec.{eqb}
use Rattle.std.specs.Prelude.{Some}
use Rattle.theory.specs.order.Recording.{loss_mark}
use Rattle.theory.specs.basics.Turns.{turns}
use Rattle.text.specs.Bytes.{index_of}
use Rattle.text.specs.Lines.{lf}
use Rattle.text.specs.LineForm.{words, op_name, task_name, on_name, space, word_of, parse_of}
use Rattle.text.specs.Places.{StandsAt, FieldAt, OpAt}
use Rattle.text.specs.Printing.{decimal}
use Rattle.text.specs.Reading.{line_at, next_at}
use Rattle.text.proofs.Bytes.{Without, without_append, index_seam, before_seam}
use Rattle.text.proofs.Places.{says_split, says_both, says_byte}
use Rattle.text.proofs.Reading.{next_place}
use Rattle.text.proofs.RoundTrip.{each_word, decimal_whole, act_text, text_taken}

-- a line and its LF stand at a place
module _ (s : List ℕ) (at : ℕ) (w : List ℕ) (h : StandsAt s at (w ++ (lf ∷ []))) (d : Without lf w) where
  abbrev rest : List ℕ
  rest = drop (at + length (w ++ (lf ∷ []))) s

  from : drop at s ≡ w ++ (lf ∷ rest)
  from = says_split h ∙ append_assoc w (lf ∷ []) rest

  ends : index_of lf (drop at s) ≡ length w
  ends = ap (index_of lf) from ∙ index_seam lf w rest d

  pub line_says : line_at s at ≡ w
  unfolding line_at
  line_says = ap (λ (t : List ℕ). line_at t 0) from ∙ before_seam lf w rest d

  pub next_says : next_at s at ≡ at + length w + 1
  next_says = next_place s at (omega (arith, ends, length-drop at s, ap length from ∙ length-append w (lf ∷ rest))) ∙ ap (λ (n : ℕ). at + n + 1) ends

-- no LF is in the text of an act
op_one_line : (k : ℕ) → k < length words → Without lf (op_name ++ word_of k)
unfolding turns index_of
op_one_line k h = eqb-true _ _ (each_word (λ k. eqb (index_of lf (op_name ++ word_of k)) (length (op_name ++ word_of k))) refl k h)

field_one_line : (name : List ℕ) (n : ℕ) → Without lf name → Without lf (name ++ decimal n)
field_one_line name n h = without_append lf name (decimal n) h (decimal_whole lf n (omega arith))

task_one_line : (n : ℕ) → Without lf ((space ∷ task_name) ++ decimal n)
unfolding index_of
task_one_line n = field_one_line (space ∷ task_name) n refl

on_one_line : (n : ℕ) → Without lf ((space ∷ on_name) ++ decimal n)
unfolding index_of
on_one_line n = field_one_line (space ∷ on_name) n refl

-- an op, its two fields and LF make a line that says the record
pub short_said : (s : List ℕ) (at k t n o a b e : ℕ) → (k ≡ loss_mark → ⊥) → OpAt s at k o → e ≡ at + o
    → FieldAt s e (space ∷ task_name) t a → FieldAt s (e + a) (space ∷ on_name) n b → e + a + b < length s → get_or s (e + a + b) 0 ≡ lf
    → (parse_of (line_at s at) ≡ Some (record { kind = k; task = t; on = n })) × (next_at s at ≡ e + a + b + 1)
short_said s at k t n o a b e d h q f g m i = (
  ap parse_of (line_says s at line stands whole ∙ sym (act_text k t n d))
      ∙ text_taken (record { kind = k; task = t; on = n })
      (record { kind_known = h.known; task_short = f.short; on_short = g.short; mark_alone = λ z. absurd (d z) }),
  next_says s at line stands whole ∙ omega (arith, q, h.long, long),
)
  where
    op : List ℕ
    op = op_name ++ word_of k

    task : List ℕ
    task = (space ∷ task_name) ++ decimal t

    on : List ℕ
    on = (space ∷ on_name) ++ decimal n

    line : List ℕ
    line = op ++ (task ++ on)

    long : length line ≡ length op + (a + b)
    long = length-append op (task ++ on) ∙ ap (λ (z : ℕ). length op + z) (length-append task on ∙ omega (arith, f.long, g.long))

    stands : StandsAt s at (line ++ (lf ∷ []))
    stands =
        says_both s at (e + a + b) line (lf ∷ []) (omega (arith, q, h.long, long))
        (says_both s at e op (task ++ on) (omega (arith, q, h.long)) h.says (says_both s e (e + a) task on (omega (arith, f.long)) f.says g.says))
        (says_byte s (e + a + b) lf m i)

    whole : Without lf line
    whole = without_append lf op (task ++ on) (op_one_line k h.known) (without_append lf task on (task_one_line t) (on_one_line n))
