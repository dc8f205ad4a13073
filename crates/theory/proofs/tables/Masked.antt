-- The masks find the partner: the lowest task of a mask that tells the candidates is what the search of specs/verdicts/Search.antt finds.
-- Assumes nothing.
use mathlib.Core.Path.{◌≡◌, refl, sym, ◌∙◌, ap, subst}
use mathlib.Core.Bool.{Bool, true, false, cond, true≢false}
use mathlib.Core.List.{List}
use mathlib.Core.Option.{Option, none, some}
use Prim.Native.Nat.{ℕ, suc, ◌≤◌, ◌<◌}
use native.Mathlib.Omega.{arith}
use lib.Dec.{T, eqb}
use Rattle.theory.specs.order.Recording.{Event}
use Rattle.theory.specs.tables.Reckonings.{mask_of, lowest_task}
use Rattle.theory.specs.verdicts.Search.{Found, partner}
use Rattle.theory.specs.order.Limits.{tasks}
use Rattle.theory.proofs.basics.Reflects.{Reflects, right, wrong, equal, at_most, by_test, is_true}
use Rattle.theory.proofs.verdicts.Latest.{some_after}
use Rattle.theory.proofs.tables.Bits.{mask_none, mask_lowest}
use Rattle.theory.proofs.verdicts.Search.{Candidate, Outcome, nobody, somebody, partner_outcome}

-- what a mask finds: the lowest of its tasks, with the number that `number` has for it
abbrev pub lowest_found : (ℕ → ℕ) → ℕ → Option Found
lowest_found number mask = cond (eqb mask 0) none (some (record { task = lowest_task mask; number = number (lowest_task mask) }))

not_both : {b : Bool} → b ≡ true → b ≡ false → ⊥
not_both p q = true≢false (sym p ∙ q)

-- The search has one outcome

-- a task has at most one candidate
candidate_one : {g : ℕ → List Event} {f : Event} {es : List Event} {t i j : ℕ} → Candidate g f es t i → Candidate g f es t j → i ≡ j
candidate_one {i = i} {j = j} c d = decided (at_most (suc i) j) (at_most (suc j) i)
  where
    decided : {a b : Bool} → Reflects (i < j) a → Reflects (j < i) b → i ≡ j
    decided (right h) q = absurd (c.apart.none (some_after c.occurs d.occurs h (d.apart.against.by, d.apart.against.conflict)))
    decided (wrong h) (right l) = absurd (d.apart.none (some_after d.occurs c.occurs l (c.apart.against.by, c.apart.against.conflict)))
    decided (wrong h) (wrong l) = omega arith

found_same : {x y : Found} → x.task ≡ y.task → x.number ≡ y.number → x ≡ y
found_same p q = λ k. record { task = p k; number = q k }

outcome_one : {g : ℕ → List Event} {f : Event} {es : List Event} {n : ℕ} {x y : Option Found} → Outcome g f n es x → Outcome g f n es y → x ≡ y
outcome_one (nobody p) (nobody q) = refl
outcome_one (nobody p) (somebody {x = y} j d e low) = absurd (p y.task j d)
outcome_one (somebody {x = x} i c e low) (nobody q) = absurd (q x.task i c)
outcome_one {g} {f} {es} (somebody {x = x} i c e low) (somebody {x = y} j d e' low') =
    let h = low y.task j d in
    let l = low' x.task i c in
    let q : y.task ≡ x.task = omega arith in
    let o : i ≡ j = candidate_one c (subst (λ (t : ℕ). Candidate g f es t j) q d) in
    ap some (found_same (sym q) (omega arith))

-- A mask that tells the candidates

module _ {g : ℕ → List Event} {f : Event} {es : List Event} (test : ℕ → Bool) (number : ℕ → ℕ)
    (sound : (u : ℕ) → u < tasks → T (test u) → (i : ℕ) × Candidate g f es u i × (number u ≡ suc i))
    (complete : (u i : ℕ) → Candidate g f es u i → (u < tasks) × T (test u)) where
  passing : {u : ℕ} → test u ≡ true → T (test u)
  passing e = subst T (sym e) tt

  mask_outcome : Outcome g f 1 es (lowest_found number (mask_of test))
  mask_outcome = decided (equal (mask_of test) 0)
    where
      decided : {b : Bool} → Reflects (mask_of test ≡ 0) b →
          Outcome g f 1 es (cond b none (some (record { task = lowest_task (mask_of test); number = number (lowest_task (mask_of test)) })))
      decided (right e) = nobody (λ t i c. let (l, q) = complete t i c in not_both (is_true (by_test (test t)) q) (mask_none test e t l))
      decided (wrong n) = lowest (mask_lowest test n)
        where
          lowest : (lowest_task (mask_of test) < tasks) × (test (lowest_task (mask_of test)) ≡ true) × ((u : ℕ) → u < lowest_task (mask_of test) → test u ≡ false) →
              Outcome g f 1 es (some (record { task = lowest_task (mask_of test); number = number (lowest_task (mask_of test)) }))
          lowest (l, q, below) =
              let (i, c, e) = sound (lowest_task (mask_of test)) l (passing q) in
              somebody {x = record { task = lowest_task (mask_of test); number = number (lowest_task (mask_of test)) }} i c (omega arith) (λ t j d. at_least t j d (at_most (lowest_task (mask_of test)) t))
            where
              at_least : (t j : ℕ) {b : Bool} → Candidate g f es t j → Reflects (lowest_task (mask_of test) ≤ t) b → lowest_task (mask_of test) ≤ t
              at_least t j d (right h) = h
              at_least t j d (wrong h) = let (l, q) = complete t j d in absurd (not_both (is_true (by_test (test t)) q) (below t (omega arith)))

  -- it is what the search finds
  pub mask_partner : lowest_found number (mask_of test) ≡ partner g f 1 es
  mask_partner = outcome_one mask_outcome (partner_outcome 1 es)
