-- Texts as words of eight bytes. The contracts of the functions that write by words speak of it, and no claim does.
use Rattle.std.specs.Prelude.{◌≡◌, ℕ, zero, suc, ◌+◌, ◌*◌, ◌/◌, ◌%◌, ◌<◌, List, [], ◌∷◌, ◌++◌, length, get_or}
use Rattle.text.specs.Bytes.{little}
use Rattle.text.specs.Printing.{bytes, record_text}

-- the k bytes of a number, the least first
unfoldable pub little_bytes : ℕ → ℕ → List ℕ
little_bytes zero w = []
little_bytes (suc k) w = w % 256 ∷ little_bytes k (w / 256)

-- four numbers in one, 16 bits for each
abbrev pub side_by_side : ℕ → ℕ → ℕ → ℕ → ℕ
side_by_side a b c d = a + 65536 * (b + 65536 * (c + 65536 * d))

-- the digits of n in pairs, of which there are four
abbrev pub digit_pairs : ℕ → ℕ
digit_pairs n = side_by_side (n / 1_000_000) (n / 10_000 % 100) (n / 100 % 100) (n % 100)

-- a record number after its `=`, as one word
abbrev pub number_word : ℕ → ℕ
number_word n = little (bytes "=" ++ record_text n)

-- a word of eight bytes, the first of which are a text of so many
pub record Opens (text : List ℕ) (word len : ℕ) : Type 0 where
  pub rest : List ℕ
  pub is : word ≡ little (text ++ rest)
  pub eight : length (text ++ rest) ≡ 8
  pub bytes : (i : ℕ) → get_or (text ++ rest) i 0 < 256
  pub long : length text ≡ len
