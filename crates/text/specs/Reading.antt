-- Reading a text line by line, from a place on.
use Rattle.std.specs.Prelude.{◌≡◌, ℕ, suc, ◌+◌, ◌-◌, ◌≤◌, ◌<◌, min, List, ◌∷◌, length, take, drop, get_or}
use Rattle.text.specs.Lines.{lf, lines_of, line_end}

-- the line that begins at a place, without its LF; empty from the end of the text on
unfoldable pub line_at : List ℕ → ℕ → List ℕ
line_at s at = take (line_end (drop at s)) (drop at s)

-- the place after n bytes from a place on and the byte that ends them, or the end of the text
unfoldable pub place_after : List ℕ → ℕ → ℕ → ℕ
place_after s at n = min (length s) (at + suc n)

-- the place after the line that begins at a place, and after its LF
abbrev pub next_at : List ℕ → ℕ → ℕ
next_at s at = place_after s at (length (line_at s at))

-- a line begins at a place, LF standing before it, or the text ends there
pub record LineStarts (s : List ℕ) (at : ℕ) : Type 0 where
  pub within : at ≤ length s
  pub after_lf : 0 < at → at < length s → get_or s (at - 1) 0 ≡ lf

-- what follows the last LF begins there; at 0 where there is none
pub record LastLf (s : List ℕ) (at : ℕ) : Type 0 where
  pub within : at ≤ length s
  pub none : line_end (drop at s) ≡ length (drop at s)
  pub after_lf : 0 < at → get_or s (at - 1) 0 ≡ lf

-- What is claimed of reading

-- what is read from a place on is the lines from there on, one after the other, each once
abbrev pub ReadsLines : Type 0
ReadsLines = (s : List ℕ) (at : ℕ) → at < length s → lines_of (drop at s) ≡ line_at s at ∷ lines_of (drop (next_at s at) s)
