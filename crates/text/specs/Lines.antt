-- The lines of a text ("Text and report").
use Rattle.std.specs.Prelude.{ℕ, ◌+◌, cond, List, [], ◌∷◌, eqb}
use Rattle.text.specs.Bytes.{index_of}

-- LF, which ends a line
abbrev pub lf : ℕ
lf = 10

-- "64 bytes for each line": so much report memory is asked for each line of a text, and none of the report is longer
abbrev pub line_room : ℕ
line_room = 64

-- the lines of a text that begins with a byte other than LF, from the lines of what follows the byte
abbrev pub begun_by : ℕ → List (List ℕ) → List (List ℕ)
begun_by b [] = (b ∷ []) ∷ []
begun_by b (l ∷ ls) = (b ∷ l) ∷ ls

-- the lines of a text, without their LFs: "ended by LF; a non-empty rest without LF is a line too"
unfoldable pub lines_of : List ℕ → List (List ℕ)
lines_of [] = []
lines_of (b ∷ s) = cond (eqb b lf) ([] ∷ lines_of s) (begun_by b (lines_of s))

-- where the first line ends: the index of the first LF, or the text's length
abbrev pub line_end : List ℕ → ℕ
line_end s = index_of lf s

-- how many LFs a text has
abbrev pub lf_bit : ℕ → ℕ
lf_bit b = cond (eqb b lf) 1 0

unfoldable pub lf_count : List ℕ → ℕ
lf_count [] = 0
lf_count (b ∷ s) = lf_bit b + lf_count s
