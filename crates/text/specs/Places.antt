-- What stands in a text from a place on. The contracts of the functions that read short lines speak of it, and no claim does.
use Rattle.std.specs.Prelude.{◌≡◌, ℕ, ◌^◌, ◌<◌, cond, List, [], ◌∷◌, ◌++◌, length, get_or, take, drop, eqb}
use Rattle.text.specs.LineForm.{digits, words, op_name, task_name, space, word_of}
use Rattle.text.specs.Printing.{decimal}

-- a word stands there
pub record StandsAt (s : List ℕ) (at : ℕ) (w : List ℕ) : Type 0 where
  pub is : take (length w) (drop at s) ≡ w

-- a name and a number stand there, in so many bytes
pub record FieldAt (s : List ℕ) (at : ℕ) (name : List ℕ) (n len : ℕ) : Type 0 where
  pub says : StandsAt s at (name ++ decimal n)
  pub long : length (name ++ decimal n) ≡ len
  pub short : n < 10 ^ digits

-- the first eight bytes of an act with the word w: its op, a space and as much of `task=` as there is room for
abbrev pub opening : List ℕ → List ℕ
opening w = take 8 (op_name ++ (w ++ (space ∷ task_name)))

-- those of an act of kind k
abbrev pub kind_opening : ℕ → List ℕ
kind_opening k = opening (word_of k)

-- how many of them are the op's, which has six at least: those before the space
abbrev pub op_bytes : List ℕ → ℕ
op_bytes o = cond (eqb (get_or o 6 0) space) 6 (cond (eqb (get_or o 7 0) space) 7 8)

-- the four bytes after the first four of ` task=T`: the rest of the name, T, and the space after it where there is room
abbrev pub task_ending : ℕ → List ℕ
task_ending n = take 4 (drop 4 (space ∷ task_name) ++ (decimal n ++ (space ∷ [])))

-- the op of a kind stands there, in so many bytes
pub record OpAt (s : List ℕ) (at k len : ℕ) : Type 0 where
  pub known : k < length words
  pub says : StandsAt s at (op_name ++ word_of k)
  pub long : length (op_name ++ word_of k) ≡ len
