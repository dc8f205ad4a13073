-- What raising a counter does: its cell moves by one, and no other. Assumes nothing.
use mathlib.Core.Path.{◌≡◌}
use mathlib.Core.Logic.{◌≢◌}
use mathlib.Core.List.{List}
use Prim.Native.Nat.{ℕ, ◌+◌, ◌-◌, ◌^◌, ◌<◌}
use borrow.Author.Tests.{lt-ltb}
use lib.ListN.{length, get_or, length-set}
use lib.Seq.{get_or-set_same, get_or-set_other}
use Rattle.theory.specs.tables.Counters.{one_more, raise}

-- no counter is at its end
abbrev pub Room : ℕ → Type 0
Room n = n < 2 ^ 32 - 1

pub one_more_lem : (n : ℕ) → Room n → one_more n ≡ n + 1
one_more_lem n h = rw (lt-ltb n (2 ^ 32 - 1) h)

pub raise_length : (i : ℕ) (table : List ℕ) → length (raise i table) ≡ length table
unfolding raise
raise_length i table = length-set table i _

pub raise_same : (i : ℕ) (table : List ℕ) → i < length table → get_or (raise i table) i 0 ≡ one_more (get_or table i 0)
unfolding raise
raise_same i table h = get_or-set_same table i _ 0 h

pub raise_other : (i j : ℕ) (table : List ℕ) → j ≢ i → get_or (raise i table) j 0 ≡ get_or table j 0
unfolding raise
raise_other i j table d = get_or-set_other table i j _ 0 d
