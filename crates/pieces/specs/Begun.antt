-- How far a text is answered, as the two numbers that a host in C keeps of it between pieces: the lines so far, and how many bytes are held of the
-- line that has begun.
use Rattle.std.specs.Prelude.{ℕ, List, [], ◌∷◌, length, get_or}
use Rattle.text.specs.declared.progress.Progress.{Progress}
use Rattle.text.specs.Stream.{Pending}

-- how far the text was answered before a piece, by these numbers; what is said for the piece begins where the report memory does
abbrev pub begun : List ℕ → Progress
begun numbers = record { lines = get_or numbers 0 0; held = get_or numbers 1 0; at = 0 }

-- the two numbers of what is kept after a piece
abbrev pub progress_numbers : {S : Type 0} → Pending S → List ℕ
progress_numbers k = k.lines ∷ length k.held ∷ []
