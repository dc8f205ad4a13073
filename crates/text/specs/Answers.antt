-- What a function asks and promises that answers lines or a piece into lent memory: each part has a name. `out` is the report memory and `held` the
-- memory that holds the line that has begun, with `state` each at entry and at exit.
use Rattle.std.specs.Prelude.{◌≡◌, ℕ, suc, ◌+◌, ◌*◌, ◌^◌, ◌≤◌, ◌<◌, List, length, take, drop, Option}
use Rattle.std.proofs.lemmas.List.Edits.{sets}
use Rattle.theory.specs.declared.record.Record.{Record}
use Rattle.theory.specs.declared.state.State.{State}
use Rattle.theory.specs.feeding.Lent.{Twice}
use Rattle.text.specs.declared.progress.Progress.{Progress}
use Rattle.text.specs.Lines.{line_room, lines_of, line_end}
use Rattle.text.specs.Reading.{LineStarts}
use Rattle.text.specs.Wrote.{Wrote}
use Rattle.text.specs.Stream.{lines_after}
use Rattle.text.specs.Report.{said_for, state_after, record_reader, report_from}
use Rattle.text.specs.Pieces.{Kept, kept, from_memory, held_most, said_in, after_piece, progress_after}

-- a line that says `parsed` was answered under its number, from the place `at` on; `to` is the next place
pub record LineAnswered (out : Twice (List ℕ)) (at number : ℕ) (state : Twice State) (parsed : Option Record) (to : ℕ) : Type 0 where
  pub room : to ≤ at + line_room
  pub wrote : Wrote out.entry at (said_for number state.entry parsed) out.exit to
  pub fed : state.exit ≡ state_after state.entry parsed

-- what answering the lines from the place `from` on and before `end` asks: no line is cut there, there is room for each, and they can be counted
-- in 64 bits
pub record LinesFit (out : List ℕ) (at lines : ℕ) (text : List ℕ) (from end : ℕ) : Type 0 where
  pub begins : from ≤ end
  pub uncut : LineStarts text end
  pub room : at + line_room * length (lines_of (drop from (take end text))) ≤ length out
  pub counted : lines + length (lines_of (drop from (take end text))) < 2 ^ 64

-- the running state after lines
abbrev pub stateFrom : State → List (List ℕ) → State
stateFrom = lines_after record_reader

-- lines ls were answered after so many others, from the place `at` on; then `ended` lines are answered, and `to` is the next place
pub record LinesAnswered (out : Twice (List ℕ)) (at : ℕ) (state : Twice State) (lines : ℕ) (ls : List (List ℕ)) (ended to : ℕ) : Type 0 where
  pub room : to ≤ at + line_room * length ls
  pub wrote : Wrote out.entry at (report_from (suc lines) state.entry ls) out.exit to
  pub fed : state.exit ≡ stateFrom state.entry ls
  pub counts : ended ≡ lines + length ls

-- what answering a piece asks: room in the report for a line for each byte, since so many may end in it; memory to hold a line, of which no more is
-- held, and no LF; and that the lines can be counted in 64 bits
pub record PieceFits (out piece held : List ℕ) (begun : Progress) : Type 0 where
  pub room : begun.at + line_room * length piece ≤ length out
  pub short : begun.held ≤ held_most
  pub holds : held_most ≤ length held
  pub whole : begun.held ≤ line_end (take begun.held held)
  pub counted : begun.lines + length piece < 2 ^ 64

-- the lines that end in `piece` were answered, k being kept before; then so many lines are answered, `to` is the next place in the report, and what
-- is left of the piece begins at `rest`
pub record EndedAnswered (out : Twice (List ℕ)) (at : ℕ) (k : Kept) (piece : List ℕ) (rest : ℕ) (s : State) (lines to : ℕ) : Type 0 where
  pub wrote : Wrote out.entry at (said_in k piece) out.exit to
  pub keeps : kept s lines (take held_most (drop rest piece)) ≡ after_piece k piece

-- a piece was answered
pub record PieceAnswered (out held : Twice (List ℕ)) (state : Twice State) (begun : Progress) (piece : List ℕ) (ended : Progress) : Type 0 where
  pub progress : ended ≡ progress_after (from_memory state.entry begun held.entry) begun.at piece
  pub wrote : out.exit ≡ sets out.entry begun.at (said_in (from_memory state.entry begun held.entry) piece)
  pub fed : state.exit ≡ (after_piece (from_memory state.entry begun held.entry) piece).state
  pub holds : held.exit ≡ sets held.entry 0 (after_piece (from_memory state.entry begun held.entry) piece).held
