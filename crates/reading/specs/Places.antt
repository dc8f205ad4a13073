-- A place in a list that a function answers, or none.
use Rattle.std.specs.Prelude.{◌≡◌, ℕ, ◌<◌, Option, MatchOption}

-- the place is p, which is that of an element; where p is the length, there is none
abbrev pub IsPlace : Option ℕ → ℕ → ℕ → Type 0
IsPlace r p n = MatchOption r (p ≡ n) (λ k. (k ≡ p) × (k < n))
