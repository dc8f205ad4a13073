-- The report of a text: its lines, numbered from 1, fed from a fresh state, each with what the report has for it. And what the C entry
-- does with the memory that it is lent.
use Rattle.std.specs.Prelude.{ℕ, ◌/◌, ◌^◌, ◌-◌, Bool, cond, List, ltb, length, Option, Some, None}
use Rattle.std.proofs.lemmas.List.Edits.{sets}
use Rattle.theory.specs.declared.record.Record.{Record}
use Rattle.theory.specs.declared.state.State.{State}
use Rattle.theory.specs.feeding.Meaning.{Meaning, meaning}
use Rattle.theory.specs.feeding.Step.{step_of, fresh_state}
use Rattle.requests.specs.entries.Table.{excuse}
use Rattle.text.specs.Lines.{line_room, lines_of}
use Rattle.text.specs.LineForm.{parse_of}
use Rattle.text.specs.ReportLines.{refused_line, excused_for, partner_in}
use Rattle.text.specs.Stream.{Reader, lines_said}

-- what the report has for a record that was answered so, by the state once it is fed: a Race may be excused
abbrev pub said_beside : ℕ → Record → State → Meaning → List ℕ
said_beside n r s m = excused_for n r (excuse s r (partner_in m)) m

-- what the report has for a line: "A line that yields no record is refused with 1"
abbrev pub said_for : ℕ → State → Option Record → List ℕ
said_for n s None = refused_line n 1
said_for n s (Some r) = said_beside n r (step_of s r).state (meaning (step_of s r).answer)

-- the state after a line
abbrev pub state_after : State → Option Record → State
state_after s None = s
state_after s (Some r) = (step_of s r).state

-- the lines of a recording
abbrev pub record_reader : Reader State
record_reader = record { said = λ n s l. said_for n s (parse_of l); next = λ s l. state_after s (parse_of l) }

-- the report of lines, the first having number n, fed to a state
abbrev pub report_from : ℕ → State → List (List ℕ) → List ℕ
report_from = lines_said record_reader

-- the report of a text
unfoldable pub report_of : List ℕ → List ℕ
report_of text = report_from 1 fresh_state (lines_of text)

-- row 11: report memory of this size has under 64 bytes for each line
abbrev pub too_small : List ℕ → ℕ → Bool
too_small text size = ltb (size / line_room) (length (lines_of text))

-- the count of bytes written, or 64 one-bits
abbrev pub returned_count : List ℕ → List ℕ → ℕ
returned_count text memory = cond (too_small text (length memory)) (2 ^ 64 - 1) (length (report_of text))

-- the memory after: untouched, or the report from its start on and the bytes after it as they were
abbrev pub memory_of : List ℕ → List ℕ → List ℕ
memory_of text memory = cond (too_small text (length memory)) memory (sets memory 0 (report_of text))
