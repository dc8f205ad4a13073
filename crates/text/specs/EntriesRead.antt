-- What a function asks and promises that reads bytes of the file of accepted faults: `out` is the memory that refusals are written into and `line` the
-- memory that holds the line that has begun, with `control` each at entry and at exit.
use Rattle.std.specs.Prelude.{◌≡◌, ℕ, ◌+◌, ◌*◌, ◌^◌, ◌≤◌, ◌<◌, List, length}
use Rattle.std.proofs.lemmas.List.Edits.{sets}
use Rattle.theory.specs.feeding.Lent.{Twice}
use Rattle.text.specs.declared.progress.Progress.{Progress}
use Rattle.text.specs.Lines.{line_room}
use Rattle.text.specs.Wrote.{Wrote}
use Rattle.text.specs.Stream.{held_most, piece_said, piece_kept, pending_in, progress_to}
use Rattle.text.specs.Entries.{entry_reader}

-- what reading so many bytes asks: room for a line for each, memory to hold a line, of which no more is held, and that the lines can be counted in 64 bits
pub record EntriesFit (out line : List ℕ) (begun : Progress) (count : ℕ) : Type 0 where
  pub room : begun.at + line_room * count ≤ length out
  pub short : begun.held ≤ held_most
  pub holds : held_most ≤ length line
  pub counted : begun.lines + count < 2 ^ 64

-- the bytes were read, the line that has begun being held in `line` alone
pub record EntriesRead (out line control : Twice (List ℕ)) (begun : Progress) (piece : List ℕ) (ended : Progress) : Type 0 where
  pub wrote : Wrote out.entry begun.at (piece_said entry_reader (pending_in control.entry begun line.entry) piece) out.exit ended.at
  pub keeps : pending_in control.exit ended line.exit ≡ piece_kept entry_reader (pending_in control.entry begun line.entry) piece
  pub room : ended.at ≤ begun.at + line_room * length piece
  pub short : ended.held ≤ held_most
  pub holds : length line.exit ≡ length line.entry
  pub counted : ended.lines ≤ begun.lines + length piece

-- a piece was read: of the line that has begun no more is written into `held` than is held of it then
pub record EntriesAnswered (out held control : Twice (List ℕ)) (begun : Progress) (piece : List ℕ) (ended : Progress) : Type 0 where
  pub progress : ended ≡ progress_to entry_reader (pending_in control.entry begun held.entry) begun.at piece
  pub wrote : out.exit ≡ sets out.entry begun.at (piece_said entry_reader (pending_in control.entry begun held.entry) piece)
  pub fed : control.exit ≡ (piece_kept entry_reader (pending_in control.entry begun held.entry) piece).state
  pub holds : held.exit ≡ sets held.entry 0 (piece_kept entry_reader (pending_in control.entry begun held.entry) piece).held
