-- Demand 1, for texts: every text of any content is refused whole, by row 11, or each of its lines is answered, once and in order.
-- proofs/TextDemands.antt proves it of the definitions that the C entry's contract names.
use Rattle.std.specs.Prelude.{◌≡◌, ℕ, suc, ◌-◌, ◌*◌, ◌^◌, ◌≤◌, ◌<◌, true, false, List, [], ◌∷◌, ◌++◌, length, drop}
use Rattle.theory.specs.declared.record.Record.{Record}
use Rattle.theory.specs.declared.state.State.{State}
use Rattle.theory.specs.declared.answer.Answer.{Answer}
use Rattle.theory.specs.verdicts.Verdict.{Verdict}
use Rattle.theory.specs.acceptance.Table.{last_row, OfRow}
use Rattle.theory.specs.order.Recording.{accesses}
use Rattle.theory.specs.feeding.Meaning.{takes, judges, meaning}
use Rattle.theory.specs.feeding.Step.{fresh_state}
use Rattle.theory.specs.feeding.Feeding.{by_clocks, checker_refusal, number_for, fed}
use Rattle.text.specs.Lines.{line_room, lines_of}
use Rattle.text.specs.LineForm.{text_of, Sayable}
use Rattle.text.specs.ReportLines.{word_for, access_line, refused_line, report_line}
use Rattle.text.specs.Report.{report_of, returned_count, memory_of}

-- A line

-- the line is of the text form, and says the record r
pub record TextForm (line : List ℕ) (r : Record) : Type 0 where
  pub sayable : Sayable r
  pub is_text : line ≡ text_of r

-- `LineGot n s line s' said`: what line number n got, fed to the state s: it left the state s', and the report has `said` for it
pub data LineGot (n : ℕ) (s : State) (line : List ℕ) : State → List ℕ → Type 0 where
  -- "A line that yields no record is refused with 1"
  no_record : ((r : Record) → ¬ TextForm line r) → LineGot n s line s (refused_line n 1)
  -- its record is refused with the number of the first row that applies, and the state stays
  refused : {r : Record} {k : ℕ} → TextForm line r → checker_refusal by_clocks s r ≡ k → 1 ≤ k → k ≤ last_row → OfRow k → LineGot n s line s (refused_line n k)
  -- "One line for an accepted access", with its record number, its verdict and the partner
  judged : {r : Record} {v : Verdict} {w : ℕ} → TextForm line r → checker_refusal by_clocks s r ≡ 0 → accesses r.kind ≡ true →
      meaning (by_clocks.answer s r) ≡ judges (number_for by_clocks s) v w →
      LineGot n s line (by_clocks.next s r) (access_line (number_for by_clocks s) r.task r.on (word_for v) w)
  -- "none for other records"
  taken : {r : Record} → TextForm line r → checker_refusal by_clocks s r ≡ 0 → accesses r.kind ≡ false →
      meaning (by_clocks.answer s r) ≡ takes (number_for by_clocks s) → LineGot n s line (by_clocks.next s r) []

-- A text

-- lines, the first having number n: each is fed to the state that the one before it left, and the report is what each got, in their order
pub data LinesGot : ℕ → State → List (List ℕ) → List ℕ → Type 0 where
  no_lines : {n : ℕ} {s : State} → LinesGot n s [] []
  a_line : {n : ℕ} {s s' : State} {line said report : List ℕ} {lines : List (List ℕ)} →
      LineGot n s line s' said → LinesGot (suc n) s' lines report → LinesGot n s (line ∷ lines) (said ++ report)

-- a text with report memory: the count that is returned, and the memory after
pub data TextHandled (text memory : List ℕ) : Type 0 where
  -- row 11: "64 one-bits", "which leaves that memory untouched"
  refused_whole : length memory < line_room * length (lines_of text) → returned_count text memory ≡ 2 ^ 64 - 1 → memory_of text memory ≡ memory → TextHandled text memory
  -- the report from the memory's start on; "Bytes after the written ones stay"
  reported : line_room * length (lines_of text) ≤ length memory → LinesGot 1 fresh_state (lines_of text) (report_of text) →
      length (report_of text) ≤ line_room * length (lines_of text) → returned_count text memory ≡ length (report_of text) →
      memory_of text memory ≡ report_of text ++ drop (length (report_of text)) memory → TextHandled text memory

-- a text that a machine can hold has a length of 64 bits
abbrev pub TextDemand1 : Type 0
TextDemand1 = (text memory : List ℕ) → length text < 2 ^ 64 → TextHandled text memory

-- and no other report would do: what each line gets is fixed
abbrev pub OneReport : Type 0
OneReport = (text report : List ℕ) → LinesGot 1 fresh_state (lines_of text) report → report ≡ report_of text

-- The answers in a report are those of feeding the records that the lines say, from a fresh state: what crates/theory proves of `fed`,
-- demands 2 and 3 among it, holds of each report

-- the lines that say records have, in order, the records rs and the answers to them, and the report is made of these
pub data Tells : ℕ → List (List ℕ) → List Record → List Answer → List ℕ → Type 0 where
  tells_nothing : {n : ℕ} → Tells n [] [] [] []
  tells_no_record : {n : ℕ} {line report : List ℕ} {lines : List (List ℕ)} {rs : List Record} {answers : List Answer} →
      ((r : Record) → ¬ TextForm line r) → Tells (suc n) lines rs answers report → Tells n (line ∷ lines) rs answers (refused_line n 1 ++ report)
  tells_answer : {n : ℕ} {line report : List ℕ} {lines : List (List ℕ)} {r : Record} {rs : List Record} {a : Answer} {answers : List Answer} →
      TextForm line r → Tells (suc n) lines rs answers report → Tells n (line ∷ lines) (r ∷ rs) (a ∷ answers) (report_line n r a ++ report)

abbrev pub TextFed : Type 0
TextFed = (text : List ℕ) → (rs : List Record) × Tells 1 (lines_of text) rs (fed rs) (report_of text)
