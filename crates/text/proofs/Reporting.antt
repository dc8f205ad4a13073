-- The loop over the lines of a text: what is written and what is still to be said make what was to be said. Assumes nothing.
use mathlib.Core.Path.{◌≡◌, refl, sym, ◌∙◌, ap, ap₂, subst}
use mathlib.Core.List.{List, [], ◌∷◌, ◌++◌}
use Prim.Native.Nat.{ℕ, suc, ◌+◌, ◌-◌, ◌*◌, ◌≤◌, ◌<◌}
use native.Mathlib.Numerals.{add-one}
use native.Mathlib.Omega.{arith}
use lib.ListN.{length, take, drop, get_or, length-append, length-take, length-drop, drop_of_length-le}
use lib.Seq.{sets, drop-drop, drop-cons}
use Rattle.std.specs.Prelude.{Option}
use Rattle.theory.specs.declared.record.Record.{Record}
use Rattle.theory.specs.declared.state.State.{State}
use Rattle.text.specs.Lines.{lf, line_room, lines_of, line_end}
use Rattle.text.specs.LineForm.{parse_of}
use Rattle.text.specs.Answers.{LineAnswered, stateFrom, LinesAnswered}
use Rattle.text.specs.Stream.{lines_said, lines_after}
use Rattle.text.specs.Report.{said_for, state_after, report_from}
use Rattle.text.specs.Reading.{line_at, next_at, LineStarts}
use Rattle.text.proofs.Bytes.{Without, index_none, split_first, before_without, without_cons}
use Rattle.text.proofs.Lines.{no_lines, lines_fit}
use Rattle.text.proofs.Reading.{lines_within}
use Rattle.text.proofs.Wrote.{sets_append}

-- One line

-- a line was answered, and others are still to be: together they are what was to be said
module _ {report report' : List ℕ} {at to : ℕ} {s s' : State} {parsed : Option Record} (n : ℕ) (line : List ℕ) (ls : List (List ℕ))
    (e : parsed ≡ parse_of line) (a : LineAnswered (record { entry = report; exit = report' }) at (n + 1) (record { entry = s; exit = s' }) parsed to) where
  abbrev rest : List ℕ
  rest = report_from (suc (n + 1)) s' ls

  first_said : report_from (suc n) s (line ∷ ls) ≡ said_for (n + 1) s parsed ++ rest
  unfolding lines_said
  first_said = rw (a.fed, e, add-one n)

  pub place_next : to + length rest ≡ at + length (report_from (suc n) s (line ∷ ls))
  place_next = omega (arith, a.wrote.place, ap length first_said ∙ length-append (said_for (n + 1) s parsed) rest)

  pub written_next : sets report' to rest ≡ sets report at (report_from (suc n) s (line ∷ ls))
  written_next =
      ap₂ (λ (z : List ℕ) (k : ℕ). sets z k rest) a.wrote.memory a.wrote.place
      ∙ sym (sets_append report at (said_for (n + 1) s parsed) rest)
      ∙ ap (sets report at) (sym first_said)

  pub fed_next : stateFrom s' ls ≡ stateFrom s (line ∷ ls)
  unfolding lines_after
  fed_next = ap (λ (z : State). stateFrom z ls) (a.fed ∙ ap (state_after s) e)

-- Line by line

-- the lines of a text from a place on and before another
abbrev pub lines_in : List ℕ → ℕ → ℕ → List (List ℕ)
lines_in text end p = lines_of (drop p (take end text))

-- those from p₀ on were to be answered over `memory` from `start` on, after n₀ others. `report` holds what is written, up to `at`; n lines are
-- answered, and those from p on are still to be.
pub record Left (text : List ℕ) (end : ℕ) (memory : List ℕ) (start : ℕ) (s₀ : State) (n₀ p₀ : ℕ) (report : List ℕ) (at : ℕ) (s : State) (n p : ℕ) : Type 0 where
  pub place : at + length (report_from (suc n) s (lines_in text end p)) ≡ start + length (report_from (suc n₀) s₀ (lines_in text end p₀))
  pub written : sets report at (report_from (suc n) s (lines_in text end p)) ≡ sets memory start (report_from (suc n₀) s₀ (lines_in text end p₀))
  pub fed : stateFrom s (lines_in text end p) ≡ stateFrom s₀ (lines_in text end p₀)
  pub counts : n + length (lines_in text end p) ≡ n₀ + length (lines_in text end p₀)
  pub room : at + line_room * length (lines_in text end p) ≤ start + line_room * length (lines_in text end p₀)

module _ {text : List ℕ} {end : ℕ} {memory : List ℕ} {start : ℕ} {s₀ : State} {n₀ p₀ : ℕ} where
  pub left_start : Left text end memory start s₀ n₀ p₀ memory start s₀ n₀ p₀
  left_start = record { place = refl; written = refl; fed = refl; counts = refl; room = omega arith }

  module _ {report : List ℕ} {at : ℕ} {s : State} {n p : ℕ} (x : Left text end memory start s₀ n₀ p₀ report at s n p) where
    -- there is room for the next line, and a number
    pub left_room : LineStarts text end → p < end → at + line_room ≤ start + line_room * length (lines_in text end p₀)
    left_room w h = omega (arith, x.room, ap length (lines_within text end p w h))

    pub left_number : LineStarts text end → p < end → n + 1 ≤ n₀ + length (lines_in text end p₀)
    left_number w h = omega (arith, x.counts, ap length (lines_within text end p w h))

    -- the next line is answered
    pub left_taken : {report' : List ℕ} {parsed : Option Record} {p' to : ℕ} {s' : State} → LineStarts text end → p < end
        → parsed ≡ parse_of (line_at text p) → p' ≡ next_at text p
        → LineAnswered (record { entry = report; exit = report' }) at (n + 1) (record { entry = s; exit = s' }) parsed to
        → Left text end memory start s₀ n₀ p₀ report' to s' (n + 1) p'
    left_taken {p' = p'} w h e f a =
        let ls = lines_in text end p' in
        let all : lines_in text end p ≡ line_at text p ∷ ls = lines_within text end p w h ∙ ap (λ (j : ℕ). line_at text p ∷ lines_in text end j) (sym f) in
        record {
          place = place_next n (line_at text p) ls e a ∙ ap (λ (z : List (List ℕ)). at + length (report_from (suc n) s z)) (sym all) ∙ x.place;
          written = written_next n (line_at text p) ls e a ∙ ap (λ (z : List (List ℕ)). sets report at (report_from (suc n) s z)) (sym all) ∙ x.written;
          fed = fed_next n (line_at text p) ls e a ∙ ap (stateFrom s) (sym all) ∙ x.fed;
          counts = omega (arith, x.counts, ap length all);
          room = omega (arith, x.room, ap length all, a.room);
        }

    -- no line is left
    pub left_said : end ≤ p → LinesAnswered (record { entry = memory; exit = report }) start (record { entry = s₀; exit = s }) n₀ (lines_in text end p₀) n at
    unfolding lines_said lines_after
    left_said h =
        let none : lines_in text end p ≡ [] = ap lines_of (drop_of_length-le (take end text) {i = p} (omega (arith, length-take end text))) ∙ no_lines in
        record {
          room = omega (arith, x.room, ap length none);
          wrote = record {
            place = omega (arith, x.place, ap (λ (z : List (List ℕ)). length (report_from (suc n) s z)) none);
            memory = sym (ap (λ (z : List (List ℕ)). sets report at (report_from (suc n) s z)) none) ∙ x.written;
          };
          fed = sym (ap (stateFrom s) none) ∙ x.fed;
          counts = omega (arith, x.counts, ap length none);
        }

-- no more lines than bytes
pub lines_in_lem : (text : List ℕ) (end p : ℕ) → length (lines_in text end p) ≤ end - p
lines_in_lem text end p = omega (arith, lines_fit (drop p (take end text)), length-drop p (take end text), length-take end text)

-- The first line of a piece

-- from a place on: the line there, LF, and what follows
pub from_place : (piece : List ℕ) (p e : ℕ) → e ≡ p + line_end (drop p piece) → e < length piece
    → drop p piece ≡ take (e - p) (drop p piece) ++ (lf ∷ drop (e + 1) piece)
from_place piece p e q h =
    let a : line_end (drop p piece) ≡ e - p = omega arith in
    let b : p + suc (line_end (drop p piece)) ≡ e + 1 = omega arith in
    split_first lf (drop p piece) (omega (arith, length-drop p piece))
    ∙ ap (λ (k : ℕ). take k (drop p piece) ++ (lf ∷ drop (suc (line_end (drop p piece))) (drop p piece))) a
    ∙ ap (λ (l : List ℕ). take (e - p) (drop p piece) ++ (lf ∷ l)) (drop-drop (suc (line_end (drop p piece))) p piece ∙ ap (λ (k : ℕ). drop k piece) b)

-- and there is no LF in that line
pub line_without : (piece : List ℕ) (p e : ℕ) → e ≡ p + line_end (drop p piece) → Without lf (take (e - p) (drop p piece))
line_without piece p e q =
    let a : line_end (drop p piece) ≡ e - p = omega arith in
    subst (λ (k : ℕ). Without lf (take k (drop p piece))) a (before_without lf (drop p piece))

-- Up to the last LF

-- there is none at the end
pub none_at_end : (s : List ℕ) → Without lf (drop (length s) s)
none_at_end s = rw (drop_of_length-le s {i = length s} (omega arith)) (index_none lf)

-- from place i + 1 on there is no LF, nor at i
pub one_before : (s : List ℕ) (i : ℕ) → 0 < i → i ≤ length s → (get_or s (i - 1) 0 ≡ lf → ⊥) → Without lf (drop i s) → Without lf (drop (i - 1) s)
one_before s i h k d w =
    let q : suc (i - 1) ≡ i = omega arith in
    rw (drop-cons s (i - 1) 0 (omega arith)) (without_cons lf (get_or s (i - 1) 0) (drop (suc (i - 1)) s) d (subst (λ (j : ℕ). Without lf (drop j s)) (sym q) w))
