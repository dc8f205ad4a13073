-- Kinds by their numbers, as the code decides by them: what holds of every kind is tried out. Assumes nothing.
use mathlib.Core.Path.{◌≡◌, refl, sym, ap, ◌∙◌}
use mathlib.Core.Bool.{Bool, true, false, cond, not, ◌||◌, true≢false}
use mathlib.Core.Logic.{◌≢◌}
use mathlib.Core.List.{List, [], ◌∷◌}
use Prim.Native.Nat.{ℕ, ◌≤◌}
use native.Mathlib.Omega.{arith}
use borrow.Author.Tests.{eqb-true, ne_eqb, not-true, not-false}
use lib.Dec.{eqb}
use lib.ListN.{length, get_or-eq_default}
use Rattle.theory.specs.order.Limits.{variables}
use Rattle.theory.specs.basics.Turns.{turns, any_below}
use Rattle.theory.specs.order.Recording.{Op, kind, series, Kind, of_op, of_mark, kinds, numbered_kind, kind_accesses, accesses, series_size}
use Rattle.theory.specs.history.History.{kind_clashes}
use Rattle.theory.proofs.basics.Reflects.{Reflects, right, wrong, at_most}
use Rattle.theory.proofs.acceptance.Rows.{none_below}
use Rattle.theory.proofs.order.Ops.{is_variable}

-- beyond the kinds there is none
pub kind_above : (k : ℕ) → length kinds ≤ k → numbered_kind k ≡ of_mark
kind_above k h = get_or-eq_default kinds of_mark h

-- a test that holds of the kinds, and beyond them, holds of every number
pub each_number : (p : ℕ → Bool) → any_below (length kinds) (λ k. not (p k)) ≡ false → ((k : ℕ) → length kinds ≤ k → p k ≡ true) → (k : ℕ) → p k ≡ true
each_number p tried beyond k = decided (at_most (length kinds) k)
  where
    decided : {b : Bool} → Reflects (length kinds ≤ k) b → p k ≡ true
    decided (right h) = beyond k h
    decided (wrong n) = not-false (p k) (none_below (length kinds) (λ k. not (p k)) tried k (omega arith))

-- Accesses

pub or_true : (b : Bool) → (b || true) ≡ true
or_true true = refl
or_true false = refl

-- a test that holds of the kinds that are accesses: tried out over the list of kinds
pub each_access_kind : (p : ℕ → Bool) → any_below (length kinds) (λ k. not (not (accesses k) || p k)) ≡ false → (k : ℕ) → accesses k ≡ true → p k ≡ true
each_access_kind p tried k e = rw e at (each_number (λ k. not (accesses k) || p k) tried beyond k)
  where
    beyond : (k : ℕ) → length kinds ≤ k → (not (accesses k) || p k) ≡ true
    beyond k h = rw (ap kind_accesses (kind_above k h)) refl

-- an access is of no kind that is none
pub no_access_kind : (p : Op) (k : ℕ) → accesses (kind p) ≡ false → accesses k ≡ true → eqb k (kind p) ≡ false
no_access_kind p k n e = ne_eqb k (kind p) (λ q. true≢false (sym e ∙ ap accesses q ∙ n))

-- what is no access clashes with nothing
pub no_clash : (k : ℕ) (p : Op) → accesses k ≡ false → false ≡ kind_clashes (numbered_kind k) p
no_clash k p e = of (numbered_kind k) e
  where
    of : (x : Kind) → kind_accesses x ≡ false → false ≡ kind_clashes x p
    of (of_op o) e = rw e
    of of_mark e = refl

-- Two tests that say the same

abbrev pub same : Bool → Bool → Bool
same true b = b
same false b = not b

pub same_true : (a b : Bool) → same a b ≡ true → a ≡ b
same_true true b e = sym e
same_true false b e = sym (not-true b e)

-- Series

-- k is the kind of none of these ops, as a `match` of the code knows it past its arms, beside what was known before, P
abbrev pub PastArms : Type 0 → List Op → ℕ → Type 0
PastArms P [] k = P
PastArms P (o ∷ os) k = PastArms (P × (k ≢ kind o)) os k

abbrev kind_among : List Op → ℕ → Bool
kind_among [] k = false
kind_among (o ∷ os) k = eqb k (kind o) || kind_among os k

none_past : {P : Type 0} (os : List Op) (k : ℕ) → PastArms P os k → P × (kind_among os k ≡ false)
none_past [] k h = (h, refl)
none_past (o ∷ os) k h = let ((p, n), e) = none_past os k h in (p, rw (ne_eqb k (kind o) n) e)

-- the ops of these kinds that are over no variable
abbrev pub over_others : List Kind → List Op
over_others [] = []
over_others (of_op o ∷ ks) = cond (is_variable (series o)) (over_others ks) (o ∷ over_others ks)
over_others (of_mark ∷ ks) = over_others ks

series_tried : any_below (length kinds) (λ k. not (kind_among (over_others kinds) k || eqb (series_size k) variables)) ≡ false
unfolding turns
series_tried = refl

-- any other kind is over the variables
pub series_else : (k : ℕ) → PastArms Unit (over_others kinds) k → series_size k ≡ variables
series_else k n =
    eqb-true (series_size k) variables (rw (none_past (over_others kinds) k n).1 at (each_number (λ k. kind_among (over_others kinds) k || eqb (series_size k) variables) series_tried beyond k))
  where
    beyond : (k : ℕ) → length kinds ≤ k → (kind_among (over_others kinds) k || eqb (series_size k) variables) ≡ true
    beyond k h = rw (kind_above k h) (or_true (kind_among (over_others kinds) k))
