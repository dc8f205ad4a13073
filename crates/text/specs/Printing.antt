-- Text as the bytes that stand for it.
use Rattle.std.specs.Prelude.{ℕ, zero, suc, ◌+◌, ◌/◌, ◌%◌, ◌^◌, true, false, List, [], ◌∷◌, ltb}
use Prim.Native.Char.{code}
use Prim.Native.String.{String}

-- the bytes of a quoted text, one for each of its ASCII characters
abbrev pub bytes : String → List ℕ
bytes String.[] = []
bytes (String.◌∷◌ c s) = code c ∷ bytes s

-- the byte of the last digit of n: "0" is 48
abbrev pub last_digit : ℕ → ℕ
last_digit n = n % 10 + 48

-- the last k digits of n, leading zeros included
unfoldable pub last_digits : ℕ → ℕ → List ℕ
last_digits zero n = []
last_digits (suc k) n = last_digit (n / 10 ^ k) ∷ last_digits k n

-- how many digits n has without leading zeros, if at most `most`
unfoldable pub width_in : ℕ → ℕ → ℕ
width_in zero n = zero
width_in (suc most) n = elim (ltb n 10) [ true ↦ 1 | false ↦ suc (width_in most (n / 10)) ]

-- 0 has one, and suc n digits are always enough
unfoldable pub width : ℕ → ℕ
width n = width_in (suc n) n

-- n in base ten, with no leading zeros
unfoldable pub decimal : ℕ → List ℕ
decimal n = last_digits (width n) n

-- "`rec` and `with` have seven digits", leading zeros included
abbrev pub record_digits : ℕ
record_digits = 7

abbrev pub record_text : ℕ → List ℕ
record_text n = last_digits record_digits n
