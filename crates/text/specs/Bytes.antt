-- Parts of a list of bytes.
use Rattle.std.specs.Prelude.{ℕ, zero, suc, ◌+◌, ◌*◌, Bool, true, false, cond, ◌&&◌, List, [], ◌∷◌, length, take, drop, eqb}

-- the index of the first b, or the length where there is none
unfoldable pub index_of : ℕ → List ℕ → ℕ
index_of b [] = zero
index_of b (x ∷ s) = cond (eqb x b) zero (suc (index_of b s))

-- what stands before the first b: all where there is none
abbrev pub up_to : ℕ → List ℕ → List ℕ
up_to b s = take (index_of b s) s

-- what stands after the first b: nothing where there is none
abbrev pub after : ℕ → List ℕ → List ℕ
after b s = drop (suc (index_of b s)) s

-- the list starts with the word
unfoldable pub starts_with : List ℕ → List ℕ → Bool
starts_with [] s = true
starts_with (w ∷ ws) [] = false
starts_with (w ∷ ws) (x ∷ s) = eqb x w && starts_with ws s

-- the list is the word
unfoldable pub is_word : List ℕ → List ℕ → Bool
is_word w s = eqb (length s) (length w) && starts_with w s

-- bytes as one number, the first counting least
unfoldable pub little : List ℕ → ℕ
little [] = zero
little (x ∷ s) = x + 256 * little s
