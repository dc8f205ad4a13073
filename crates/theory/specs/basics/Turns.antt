-- Counting loops, as the code has them, and what is said by them.
use Rattle.std.specs.Prelude.{ℕ, zero, suc, Bool, true, false, ◌||◌}

-- f 0, then f 1, and so on, n times in all
unfoldable pub turns : {A : Type 0} → ℕ → (ℕ → A → A) → A → A
turns zero f b = b
turns (suc n) f b = f n (turns n f b)

-- the test passes at one of the numbers below n at least
abbrev pub any_below : ℕ → (ℕ → Bool) → Bool
any_below n p = turns n (λ k b. b || p k) false

-- 1 where a test passes, so that it is counted, and 0 where not
abbrev pub indicator : Bool → ℕ
indicator true = 1
indicator false = 0
