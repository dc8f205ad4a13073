-- Counting loops: x is what n turns of f make of b. Assumes nothing.
use mathlib.Core.Path.{◌≡◌, refl, ap, ◌∙◌, subst}
use Prim.Native.Nat.{ℕ, ◌+◌, ◌≤◌}
use native.Mathlib.Numerals.{add-one}
use native.Mathlib.Omega.{arith}
use Rattle.theory.specs.basics.Turns.{turns}

pub record Turned {A : Type 0} (f : ℕ → A → A) (b : A) (n : ℕ) (x : A) : Type 0 where
  pub is : x ≡ turns n f b

module _ {A : Type 0} {f : ℕ → A → A} {b : A} where
  pub no_turn : Turned f b 0 b
  unfolding turns
  no_turn = record { is = refl }

  pub no_turn_yet : {x : A} → x ≡ b → Turned f b 0 x
  unfolding turns
  no_turn_yet e = record { is = e }

  pub one_turn : {x y : A} {c : ℕ} → Turned f b c x → y ≡ f c x → Turned f b (c + 1) y
  unfolding turns
  one_turn {c = c} e h = record { is = rw (add-one c) (h ∙ ap (f c) e.is) }

  pub all_turns : {x : A} {c : ℕ} (n : ℕ) → Turned f b c x → c ≤ n → n ≤ c → x ≡ turns n f b
  all_turns {x} {c} n e h l = let q : c ≡ n = omega arith in subst (λ (k : ℕ). x ≡ turns k f b) q e.is
