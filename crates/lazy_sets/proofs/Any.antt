-- The library's test over the numbers of a range is the definitions' over all numbers below its end. Assumes nothing.
use mathlib.Core.Path.{◌≡◌, sym, ◌∙◌, ap}
use mathlib.Core.Bool.{Bool, ◌||◌}
use Prim.Native.Nat.{ℕ, zero, suc, ◌+◌}
use native.Mathlib.Numerals.{add-one}
use native.Mathlib.Omega.{arith}
use Rattle.std.proofs.Math.Bool.{or-false, or_assoc}
use Rattle.std.specs.List.{list_any, range_with_len}
use Rattle.theory.specs.basics.Turns.{turns, any_below}

below : (p : ℕ → Bool) (m n : ℕ) → m ≡ n → any_below m p ≡ any_below n p
below p m n e = ap (λ (m : ℕ). any_below m p) e

below_too : (p : ℕ → Bool) (a n : ℕ) → (any_below a p || list_any p (range_with_len a n)) ≡ any_below (a + n) p
unfolding turns
below_too p a zero = or-false (any_below a p) ∙ below p a (a + 0) (omega arith)
below_too p a (suc n) =
    let h = below_too p (a + 1) n in
    sym (or_assoc (any_below a p) (p a) (list_any p (range_with_len (a + 1) n)))
    ∙ (rw (ap (λ (m : ℕ). any_below m p) (add-one a)) at h ∙ below p (a + 1 + n) (a + suc n) (omega arith))

pub any_in_range : (p : ℕ → Bool) (n : ℕ) → list_any p (range_with_len 0 n) ≡ any_below n p
unfolding turns
any_in_range p n = below_too p 0 n ∙ below p (0 + n) n (omega arith)
