-- Cells that count.
use Rattle.std.specs.Prelude.{ℕ, ◌+◌, ◌-◌, ◌^◌, cond, List, ltb, get_or, set}

-- one more; a counter at the end of its 32 bits, which no list of records leads to, stays there
abbrev pub one_more : ℕ → ℕ
one_more n = cond (ltb n (2 ^ 32 - 1)) (n + 1) n

unfoldable pub raise : ℕ → List ℕ → List ℕ
raise i table = set table i (one_more (get_or table i 0))
