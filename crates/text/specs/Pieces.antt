-- The report of a text that comes in pieces: what is kept between them, what each byte adds to the report, and the law that the cut does
-- not matter.
use Rattle.std.specs.Prelude.{◌≡◌, ℕ, ◌-◌, ◌/◌, ◌^◌, Bool, ◌&&◌, List, [], leb, length, take}
use Rattle.theory.specs.declared.state.State.{State}
use Rattle.theory.specs.feeding.Step.{fresh_state}
use Rattle.text.specs.declared.progress.Progress.{Progress}
use Rattle.text.specs.Lines.{line_room, line_end}
use Rattle.text.specs.Stream.{Pending, pending, byte_said, byte_kept, piece_said, piece_kept, end_said, pieces_said, pending_in, progress_to}
pub use Rattle.text.specs.Stream.{held_most}
unfoldable pub use Rattle.text.specs.Stream.{whole_of}
use Rattle.text.specs.Report.{record_reader, report_of}

-- what is kept between pieces: the running state, how many lines are answered, and what is held of the line that has begun
abbrev pub Kept : Type 0
Kept = Pending State

abbrev pub kept : State → ℕ → List ℕ → Kept
kept = pending

-- before the first piece
abbrev pub fresh_kept : Kept
fresh_kept = kept fresh_state 0 []

-- what the report has at a byte, and what is kept after it
abbrev pub said_at : Kept → ℕ → List ℕ
said_at = byte_said record_reader

abbrev pub after_byte : Kept → ℕ → Kept
after_byte = byte_kept record_reader

-- what the report has for a piece, and what is kept after it
abbrev pub said_in : Kept → List ℕ → List ℕ
said_in = piece_said record_reader

abbrev pub after_piece : Kept → List ℕ → Kept
after_piece = piece_kept record_reader

-- what the report has at the text's end
abbrev pub said_at_end : Kept → List ℕ
said_at_end = end_said record_reader

-- what the report has for pieces and for the text's end after them
abbrev pub said_in_all : Kept → List (List ℕ) → List ℕ
said_in_all = pieces_said record_reader

-- however a text is cut, what is said for its pieces makes its report
abbrev pub AnyCut : Type 0
AnyCut = (pieces : List (List ℕ)) → said_in_all fresh_kept pieces ≡ report_of (whole_of pieces)

-- what is held has no LF, after any piece as before it
abbrev pub HeldOpen : Type 0
HeldOpen = (k : Kept) (piece : List ℕ) → line_end k.held ≡ length k.held → line_end (after_piece k piece).held ≡ length (after_piece k piece).held

-- As memory

-- what is kept, from the progress and the memory that holds the line that has begun
abbrev pub from_memory : State → Progress → List ℕ → Kept
from_memory = pending_in

-- the progress after a piece, the report having come to a place before it
abbrev pub progress_after : Kept → ℕ → List ℕ → Progress
progress_after = progress_to record_reader

-- n bytes of one line are held: the memory can hold a line, no more bytes of it are held, and no LF is among them
abbrev pub holds_open : List ℕ → ℕ → Bool
holds_open memory n = leb held_most (length memory) && (leb n held_most && leb n (line_end (take n memory)))

-- a piece of so many bytes is taken in: from `at` on there is room in the report for a line for each of them, since so many may end in it; the line
-- that has begun is held; and the lines can be counted in 64 bits
abbrev pub fits : ℕ → ℕ → List ℕ → Progress → Bool
fits out piece memory begun =
    leb begun.at out
    && (leb piece ((out - begun.at) / line_room) && (holds_open memory begun.held && leb piece (2 ^ 64 - 1 - begun.lines)))

-- the answer to a piece that is not: 64 one-bits, as for row 11
abbrev pub piece_refused : Progress → Progress
piece_refused begun = record { lines = begun.lines; held = begun.held; at = 2 ^ 64 - 1 }
