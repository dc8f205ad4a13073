-- The numbers of the tasks, in base ten, and the text of the tasks of a mask. Assumes nothing.
use mathlib.Core.Path.{◌≡◌, ap, ap₂, ◌∙◌}
use mathlib.Core.List.{List, [], ◌∷◌, ◌++◌}
use Prim.Native.Nat.{ℕ, ◌+◌, ◌-◌, ◌/◌, ◌≤◌, ◌<◌}
use native.Mathlib.Numerals.{add-one}
use native.Mathlib.Omega.{arith}
use Rattle.theory.specs.order.Limits.{tasks}
use Rattle.text.specs.Printing.{last_digit, decimal}
use Rattle.text.proofs.Digits.{decimal_small, decimal_more}
use Rattle.settle.specs.Table.{comma_task, named_below}

pub one_digit : (t : ℕ) → t < 10 → decimal t ≡ (48 + t) ∷ []
one_digit t h = let d : last_digit t ≡ 48 + t = omega arith in decimal_small t h ∙ ap (λ (b : ℕ). b ∷ []) d

pub two_digits : (t : ℕ) → 10 ≤ t → t < tasks → decimal t ≡ 49 ∷ (48 + (t - 10)) ∷ []
two_digits t l h =
    let one : t / 10 ≡ 1 = omega arith in
    let d : last_digit t ≡ 48 + (t - 10) = omega arith in
    decimal_more t l
    ∙ ap₂ (λ (k b : ℕ). decimal k ++ (b ∷ [])) one d
    ∙ ap (λ (s : List ℕ). s ++ ((48 + (t - 10)) ∷ [])) (decimal_small 1 (omega arith))

pub named_next : (mask t : ℕ) → named_below mask (t + 1) ≡ named_below mask t ++ comma_task mask t
unfolding named_below
named_next mask t = rw (add-one t)
