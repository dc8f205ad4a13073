-- A text that comes in pieces, cut anywhere, whatever its lines are for: what is kept between pieces, what each byte adds, and the law that the
-- cut does not matter. Recordings (Pieces.antt) and accepted faults are read so.
use Rattle.std.specs.Prelude.{◌≡◌, ℕ, suc, ◌+◌, cond, List, [], ◌∷◌, ◌++◌, eqb, length, take}
use Rattle.text.specs.declared.progress.Progress.{Progress}
use Rattle.text.specs.Lines.{lf, lines_of}
use Rattle.text.specs.LineForm.{longest}

-- what is said for line number n, fed to a state, and the state after it
pub record Reader (S : Type 0) : Type 0 where
  pub said : ℕ → S → List ℕ → List ℕ
  pub next : S → List ℕ → S

-- Whole lines

-- what is said for lines, the first having number n
unfoldable pub lines_said : {S : Type 0} → Reader S → ℕ → S → List (List ℕ) → List ℕ
lines_said x n s [] = []
lines_said x n s (l ∷ ls) = x.said n s l ++ lines_said x (suc n) (x.next s l) ls

-- the state after lines
unfoldable pub lines_after : {S : Type 0} → Reader S → S → List (List ℕ) → S
lines_after x s [] = s
lines_after x s (l ∷ ls) = lines_after x (x.next s l) ls

-- Pieces

-- what is kept between pieces: the running state, how many lines are answered, and what is held of the line that has begun
pub record Pending (S : Type 0) : Type 0 where
  pub state : S
  pub lines : ℕ
  pub held : List ℕ

abbrev pub pending : {S : Type 0} → S → ℕ → List ℕ → Pending S
pending s n h = record { state = s; lines = n; held = h }

-- so many bytes of a line are held at most: a line of more than `longest` says what its first bytes do (`HeldEnough`)
abbrev pub held_most : ℕ
held_most = longest + 1

module _ {S : Type 0} (x : Reader S) where
  -- what is said at a byte: LF ends the line that has begun, and it is answered
  unfoldable pub byte_said : Pending S → ℕ → List ℕ
  byte_said k b = cond (eqb b lf) (x.said (suc k.lines) k.state k.held) []

  -- what is kept after a byte
  unfoldable pub byte_kept : Pending S → ℕ → Pending S
  byte_kept k b =
      cond (eqb b lf) (pending (x.next k.state k.held) (suc k.lines) []) (pending k.state k.lines (take held_most (k.held ++ (b ∷ []))))

  -- what is said for a piece, and what is kept after it
  unfoldable pub piece_said : Pending S → List ℕ → List ℕ
  piece_said k [] = []
  piece_said k (b ∷ s) = byte_said k b ++ piece_said (byte_kept k b) s

  unfoldable pub piece_kept : Pending S → List ℕ → Pending S
  piece_kept k [] = k
  piece_kept k (b ∷ s) = piece_kept (byte_kept k b) s

  -- what is said at the text's end: "a non-empty rest without LF is a line too", as if LF ended it
  abbrev pub end_said : Pending S → List ℕ
  end_said k = cond (eqb (length k.held) 0) [] (byte_said k lf)

  -- what is said for pieces and for the text's end after them
  unfoldable pub pieces_said : Pending S → List (List ℕ) → List ℕ
  pieces_said k [] = end_said k
  pieces_said k (p ∷ ps) = piece_said k p ++ pieces_said (piece_kept k p) ps

  -- the state after pieces and the text's end
  abbrev pub end_state : Pending S → S
  end_state k = cond (eqb (length k.held) 0) k.state (byte_kept k lf).state

  unfoldable pub pieces_after : Pending S → List (List ℕ) → S
  pieces_after k [] = end_state k
  pieces_after k (p ∷ ps) = pieces_after (piece_kept k p) ps

-- the text that was cut into pieces
unfoldable pub whole_of : List (List ℕ) → List ℕ
whole_of [] = []
whole_of (p ∷ ps) = p ++ whole_of ps

-- As memory

-- what is pending, from the progress and the memory that holds the line that has begun
abbrev pub pending_in : {S : Type 0} → S → Progress → List ℕ → Pending S
pending_in s begun memory = pending s begun.lines (take begun.held memory)

-- the progress after a piece, what is said having come to a place before it
abbrev pub progress_to : {S : Type 0} → Reader S → Pending S → ℕ → List ℕ → Progress
progress_to x k at piece =
    record { lines = (piece_kept x k piece).lines; held = length (piece_kept x k piece).held; at = at + length (piece_said x k piece) }

-- What is claimed

-- as much of a line as is held says what the line does
pub record HeldEnough {S : Type 0} (x : Reader S) : Type 0 where
  pub same_said : (n : ℕ) (s : S) (l : List ℕ) → x.said n s (take held_most l) ≡ x.said n s l
  pub same_next : (s : S) (l : List ℕ) → x.next s (take held_most l) ≡ x.next s l

-- however a text is cut, what is said for its pieces is what is said for its lines
abbrev pub CutsAlike : {S : Type 0} → Reader S → Type 0
CutsAlike {S} x = (s : S) (pieces : List (List ℕ)) → pieces_said x (pending s 0 []) pieces ≡ lines_said x 1 s (lines_of (whole_of pieces))

-- and the state is the same
abbrev pub EndsAlike : {S : Type 0} → Reader S → Type 0
EndsAlike {S} x = (s : S) (pieces : List (List ℕ)) → pieces_after x (pending s 0 []) pieces ≡ lines_after x s (lines_of (whole_of pieces))
