-- A test that tells whether a statement holds: `Reflects P b`. Tests joined by `&&`, `||` and `not` tell of the joined statements.
-- Assumes nothing.
use mathlib.Core.Path.{◌≡◌, refl, subst}
use mathlib.Core.Bool.{Bool, true, false, not, ◌&&◌, ◌||◌}
use mathlib.Core.Logic.{◌⊎◌, inl, inr, ⊎_elim}
use Prim.Native.Nat.{ℕ, ◌≤◌}
use lib.Dec.{T, leb, eqb, leb→le, eqb→eq, eqb_refl, le→leb}

-- Definition

pub data Reflects (P : Type 0) : Bool → Type 0 where
  right : P → Reflects P true
  wrong : ¬ P → Reflects P false

-- Operations

pub by_test : (b : Bool) → Reflects (T b) b
by_test true = right tt
by_test false = wrong (λ t. t)

pub both : {P Q : Type 0} {a b : Bool} → Reflects P a → Reflects Q b → Reflects (P × Q) (a && b)
both (right p) (right q) = right (p, q)
both (right p) (wrong q) = wrong (λ x. q x.1)
both (wrong p) q = wrong (λ x. p x.0)

pub either : {P Q : Type 0} {a b : Bool} → Reflects P a → Reflects Q b → Reflects (P ⊎ Q) (a || b)
either (right p) q = right (inl p)
either (wrong p) (right q) = right (inr q)
either (wrong p) (wrong q) = wrong (⊎_elim p q)

pub fails : {P : Type 0} {a : Bool} → Reflects P a → Reflects (¬ P) (not a)
fails (right p) = wrong (λ f. f p)
fails (wrong f) = right f

pub same_as : {P Q : Type 0} {b : Bool} → (P → Q) → (Q → P) → Reflects P b → Reflects Q b
same_as to from (right p) = right (to p)
same_as to from (wrong f) = wrong (λ q. f (from q))

pub equal : (m n : ℕ) → Reflects (m ≡ n) (eqb m n)
equal m n = same_as (eqb→eq m n) (λ e. subst (λ (k : ℕ). T (eqb m k)) e (eqb_refl m)) (by_test (eqb m n))

pub at_most : (m n : ℕ) → Reflects (m ≤ n) (leb m n)
at_most m n = same_as (leb→le m n) (le→leb m n) (by_test (leb m n))

-- Properties

pub passed : {P : Type 0} {b : Bool} → Reflects P b → T b → P
passed (right p) t = p
passed (wrong f) t = absurd t

pub passes : {P : Type 0} {b : Bool} → Reflects P b → P → T b
passes (right p) q = tt
passes (wrong f) q = f q

pub is_true : {b : Bool} → Reflects (T b) b → T b → b ≡ true
is_true (right p) t = refl
is_true (wrong f) t = absurd t
