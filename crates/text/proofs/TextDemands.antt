-- Demand 1 for texts. Of the step nothing is used but that it meets demand 1 for records (`clocks_demand1`). Assumes nothing.
use mathlib.Core.Path.{◌≡◌, refl, sym, ap, ap₂, subst, ◌∙◌}
use mathlib.Core.Bool.{Bool, true, false}
use mathlib.Core.List.{List, [], ◌∷◌, ◌++◌}
use Prim.Native.Nat.{ℕ, suc, ◌+◌, ◌*◌, ◌/◌, ◌^◌, ◌≤◌, ◌<◌}
use native.Mathlib.Nat.{zero-add}
use native.Mathlib.Omega.{arith}
use lib.ListN.{length, drop, length-append}
use lib.Seq.{sets, sets-eq}
use borrow.Author.Tests.{ltb-true, ltb-false}
use Rattle.std.proofs.lemmas.Option.{none-some}
use Rattle.std.specs.Prelude.{Option, Some, None}
use Rattle.theory.specs.declared.record.Record.{Record}
use Rattle.theory.specs.declared.state.State.{State}
use Rattle.theory.specs.feeding.Meaning.{Meaning, refuses, meaning}
use Rattle.theory.specs.feeding.Step.{fresh_state}
use Rattle.theory.specs.feeding.Feeding.{replies, by_clocks, checker_refusal, Handled, access_taken, other_taken}
use Rattle.theory.specs.feeding.Feeding
use Rattle.theory.proofs.feeding.Demanded.{clocks_demand1}
use Rattle.text.specs.Lines.{line_room, lines_of}
use Rattle.text.specs.LineForm.{parse_of}
use Rattle.text.specs.ReportLines.{word_for, refused_line, line_for, report_line}
use Rattle.text.specs.Stream.{lines_said}
use Rattle.text.specs.Report.{said_for, state_after, report_from, report_of, too_small}
use Rattle.text.specs.TextDemands.{TextForm, LineGot, no_record, refused, judged, taken, LinesGot, no_lines, a_line, TextHandled, refused_whole, reported, TextDemand1, OneReport, Tells, tells_nothing, tells_no_record, tells_answer, TextFed}
use Rattle.text.proofs.Lines.{lines_fit}
use Rattle.text.proofs.RoundTrip.{text_taken, only_text, only_sayable}
use Rattle.text.proofs.Excused.{NoEntries, said_plain, none_after, none_fresh}
use Rattle.text.proofs.Lengths.{refused_line_fits, access_line_fits, verdict_word_fits}

-- A line

module _ (n : ℕ) (s : State) (line : List ℕ) (r : Record) (form : TextForm line r) where
  -- what the line gets where the step leaves the state x and its answer means m
  abbrev Gives : State → Meaning → Type 0
  Gives x m = LineGot n s line x (line_for n r m)

  record_got : Gives (by_clocks.next s r) (meaning (by_clocks.answer s r))
  record_got = by_cases (clocks_demand1 s r)
    where
      by_cases : Handled by_clocks s r → Gives (by_clocks.next s r) (meaning (by_clocks.answer s r))
      by_cases (Feeding.refused k e l h o m q) = subst (λ (x : State). Gives x (meaning (by_clocks.answer s r))) (sym q) (subst (Gives s) (sym m) (refused form e l h o))
      by_cases (access_taken e q j) = subst (Gives (by_clocks.next s r)) (sym j.2) (judged form e q j.2)
      by_cases (other_taken e q m) = subst (Gives (by_clocks.next s r)) (sym m) (taken form e q m)

module _ (line : List ℕ) where
  pub parsed_none : parse_of line ≡ None → (r : Record) → ¬ TextForm line r
  parsed_none e r f =
      none-some r (sym e ∙ ap parse_of f.is_text ∙ text_taken r f.sayable)

  pub parsed_form : (r : Record) → parse_of line ≡ Some r → TextForm line r
  parsed_form r e = record { sayable = only_sayable line r e; is_text = only_text line r e }

  line_got : (n : ℕ) (s : State) (p : Option Record) → NoEntries s → parse_of line ≡ p → LineGot n s line (state_after s p) (said_for n s p)
  line_got n s None z e = no_record (parsed_none e)
  line_got n s (Some r) z e =
      subst (LineGot n s line (by_clocks.next s r)) (sym (said_plain n r (by_clocks.next s r) (meaning (by_clocks.answer s r)) (none_after s (Some r) z)))
      (record_got n s line r (parsed_form r e))

-- A text

answered : (n : ℕ) (s : State) (lines : List (List ℕ)) → NoEntries s → LinesGot n s lines (report_from n s lines)
unfolding lines_said
answered n s [] z = no_lines
answered n s (line ∷ lines) z = a_line (line_got line n s (parse_of line) z refl) (answered (suc n) (state_after s (parse_of line)) lines (none_after s (parse_of line) z))

got_fits : {n : ℕ} {s s' : State} {line said : List ℕ} → LineGot n s line s' said → n < 2 ^ 64 → length said ≤ line_room
got_fits {n} (no_record f) h = refused_line_fits n 1 h (omega arith)
got_fits {n} (refused {k = k} f e l g o) h = refused_line_fits n k h (omega arith)
got_fits (judged {r = r} {v = v} f z a x) h =
    let t = f.sayable.task_short in
    let o = f.sayable.on_short in
    access_line_fits _ r.task r.on (word_for v) _ (omega arith) (omega arith) (verdict_word_fits v)
got_fits (taken f z a x) h = omega arith

answered_fits : {n : ℕ} {s : State} {lines : List (List ℕ)} {report : List ℕ} → LinesGot n s lines report → n + length lines ≤ 2 ^ 64 → length report ≤ line_room * length lines
answered_fits no_lines h = omega arith
answered_fits (a_line {said = said} {report = report} g a) h = omega (arith, length-append said report, got_fits g (omega arith), answered_fits a (omega arith))

text_answered : (text : List ℕ) → LinesGot 1 fresh_state (lines_of text) (report_of text)
unfolding report_of
text_answered text = answered 1 fresh_state (lines_of text) none_fresh

-- demand 1 for texts
pub text_demand1 : TextDemand1
text_demand1 text memory h = decided (too_small text (length memory)) refl
  where
    decided : (b : Bool) → too_small text (length memory) ≡ b → TextHandled text memory
    decided true e = refused_whole (omega (arith, ltb-true (length memory / line_room) (length (lines_of text)) e)) (rw e) (rw e)
    decided false e =
        let room : line_room * length (lines_of text) ≤ length memory = omega (arith, ltb-false (length memory / line_room) (length (lines_of text)) e) in
        let fits : length (report_of text) ≤ line_room * length (lines_of text) = answered_fits (text_answered text) (omega (arith, lines_fit text)) in
        let written : sets memory 0 (report_of text) ≡ report_of text ++ drop (length (report_of text)) memory =
        sets-eq (report_of text) memory 0 (omega arith) ∙ ap (λ (k : ℕ). report_of text ++ drop k memory) (zero-add (length (report_of text))) in
        reported room (text_answered text) fits (rw e) (rw e written)

-- No other report would do

-- a record to which a row applies is refused with that row's number
row_refuses : (s : State) (r : Record) {k : ℕ} → checker_refusal by_clocks s r ≡ k → 1 ≤ k → (meaning (by_clocks.answer s r) ≡ refuses k) × (by_clocks.next s r ≡ s)
row_refuses s r {k} z l = by_cases (clocks_demand1 s r)
  where
    by_cases : Handled by_clocks s r → (meaning (by_clocks.answer s r) ≡ refuses k) × (by_clocks.next s r ≡ s)
    by_cases (Feeding.refused n e _ _ _ m q) = (m ∙ ap refuses (sym e ∙ z), q)
    by_cases (access_taken e _ _) = absurd (omega arith)
    by_cases (other_taken e _ _) = absurd (omega arith)

-- what a line got is what the definitions of the report say
record Fixed (n : ℕ) (s : State) (line : List ℕ) (s' : State) (said : List ℕ) : Type 0 where
  state : s' ≡ state_after s (parse_of line)
  piece : said ≡ said_for n s (parse_of line)

module _ {n : ℕ} {s : State} {line : List ℕ} (z : NoEntries s) where
  form_fixed : {r : Record} {s' : State} {said : List ℕ} → TextForm line r → s' ≡ by_clocks.next s r → said ≡ report_line n r (by_clocks.answer s r) → Fixed n s line s' said
  form_fixed {r} f a b =
      let e : parse_of line ≡ Some r = ap parse_of f.is_text ∙ text_taken r f.sayable in
      record { state = rw e a; piece = rw e (b ∙ sym (said_plain n r (by_clocks.next s r) (meaning (by_clocks.answer s r)) (none_after s (Some r) z))) }

  got_fixed : {s' : State} {said : List ℕ} → LineGot n s line s' said → Fixed n s line s' said
  got_fixed (no_record f) = by_parse (parse_of line) refl
    where
      by_parse : (p : Option Record) → parse_of line ≡ p → Fixed n s line s (refused_line n 1)
      by_parse None e = record { state = rw e; piece = rw e }
      by_parse (Some r) e = absurd (f r (parsed_form line r e))
  got_fixed (refused {r = r} f e l h o) = let (m, q) = row_refuses s r e l in form_fixed f (sym q) (ap (line_for n r) (sym m))
  got_fixed (judged {r = r} f e a m) = form_fixed f refl (ap (line_for n r) (sym m))
  got_fixed (taken {r = r} f e a m) = form_fixed f refl (ap (line_for n r) (sym m))

answered_fixed : {n : ℕ} {s : State} {lines : List (List ℕ)} {report : List ℕ} → NoEntries s → LinesGot n s lines report → report ≡ report_from n s lines
unfolding lines_said
answered_fixed z no_lines = refl
answered_fixed {n} {s} z (a_line {line = line} {lines = lines} g a) =
    let f = got_fixed z g in
    let y = subst NoEntries (sym f.state) (none_after s (parse_of line) z) in
    ap₂ (λ (x : List ℕ) (y : List ℕ). x ++ y) f.piece (answered_fixed y a ∙ ap (λ (x : State). report_from (suc n) x lines) f.state)

pub one_report : OneReport
unfolding report_of
one_report text report a = answered_fixed none_fresh a

-- The answers are those of feeding

told : (n : ℕ) (s : State) (lines : List (List ℕ)) → NoEntries s → (rs : List Record) × Tells n lines rs (replies by_clocks s rs) (report_from n s lines)
unfolding lines_said
told n s [] z = ([], tells_nothing)
told n s (line ∷ lines) z = by_parse (parse_of line) refl (told (suc n) (state_after s (parse_of line)) lines (none_after s (parse_of line) z))
  where
    by_parse : (p : Option Record) → parse_of line ≡ p → ((rs : List Record) × Tells (suc n) lines rs (replies by_clocks (state_after s p) rs) (report_from (suc n) (state_after s p) lines))
        → (rs : List Record) × Tells n (line ∷ lines) rs (replies by_clocks s rs) (said_for n s p ++ report_from (suc n) (state_after s p) lines)
    by_parse None e (rs, t) = (rs, tells_no_record (parsed_none line e) t)
    by_parse (Some r) e (rs, t) =
        (r ∷ rs, rw (said_plain n r (by_clocks.next s r) (meaning (by_clocks.answer s r)) (none_after s (Some r) z)) (tells_answer (parsed_form line r e) t))

pub text_fed : TextFed
unfolding report_of
text_fed text = told 1 fresh_state (lines_of text) none_fresh
