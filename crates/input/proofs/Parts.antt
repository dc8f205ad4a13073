-- The first LF of a part of a text is that of the text, as far as the part goes.
use mathlib.Core.Path.{◌≡◌}
use mathlib.Core.Bool.{Bool, true, false, cond}
use mathlib.Core.List.{List, [], ◌∷◌}
use Prim.Native.Nat.{ℕ, zero, suc, min}
use native.Mathlib.Omega.{arith}
use lib.Dec.{eqb}
use lib.ListN.{take}
use Rattle.text.specs.Bytes.{index_of}

pub index_of_take : (b n : ℕ) (s : List ℕ) → index_of b (take n s) ≡ min n (index_of b s)
unfolding index_of
index_of_take b zero s = omega arith
index_of_take b (suc n) [] = omega arith
index_of_take b (suc n) (x ∷ s) = picked (eqb x b) (index_of_take b n s)
  where
    picked : (t : Bool) → index_of b (take n s) ≡ min n (index_of b s) → cond t zero (suc (index_of b (take n s))) ≡ min (suc n) (cond t zero (suc (index_of b s)))
    picked true e = omega arith
    picked false e = omega arith
