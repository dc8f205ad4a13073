-- The search of specs/verdicts/Search.antt finds the partner that specs/verdicts/Verdict.antt means, in any filling by a function. Assumes nothing.
use mathlib.Core.Path.{◌≡◌}
use mathlib.Core.Bool.{Bool, true, false, cond}
use mathlib.Core.Logic.{◌↔◌, ◌⊎◌, inl, inr}
use mathlib.Core.List.{List, [], ◌∷◌}
use mathlib.Core.Option.{Option, none, some}
use Prim.Native.Nat.{ℕ, zero, suc, ◌+◌, ◌≤◌}
use native.Mathlib.Omega.{arith}
use Rattle.theory.specs.order.Recording.{Op, Event, act, lost, Every, ActsIn, acts}
use Rattle.theory.specs.order.Path.{Conflict, Empties, Against}
use Rattle.theory.specs.fillings.Completion.{fill_with}
use Rattle.theory.specs.verdicts.Verdict.{Latest, Partner}
use Rattle.theory.specs.verdicts.Search.{Found, found, lower, apart, partner}
use Rattle.theory.proofs.basics.Reflects.{Reflects, right, wrong, both, fails, at_most}
use Rattle.theory.proofs.order.Leads.{Leads}
use Rattle.theory.proofs.order.Places.{Ends, Occurs, first, next, nowhere}
use Rattle.theory.proofs.order.Tests.{Again, again_test, conflict_test, empties_test, none_test, lead_test}
use Rattle.theory.proofs.verdicts.Latest.{final_latest, latest_final}

-- Definition

module _ (g : ℕ → List Event) (f : Event) where
  -- e, with `after` behind it, is task t's latest conflicting access and does not lead to f
  pub record Apart (t : ℕ) (e : Event) (after : List Event) : Type 0 where
    pub against : Against t e after f
    pub none : ¬ Again t f after
    pub unordered : ¬ Leads e (fill_with g after) f

  -- the event at place i of the list is
  pub record Candidate (es : List Event) (t i : ℕ) : Type 0 where
    pub e : Event
    pub after : List Event
    pub occurs : Occurs es i e after
    pub apart : Apart t e after

  -- what the search finds in a list whose first event has the record number n: the candidate of the lowest task, if there is one
  pub data Outcome (n : ℕ) (es : List Event) : Option Found → Type 0 where
    nobody : ((t i : ℕ) → ¬ Candidate es t i) → Outcome n es none
    somebody : {x : Found} (i : ℕ) → Candidate es x.task i → x.number ≡ n + i → ((t j : ℕ) → Candidate es t j → x.task ≤ t) → Outcome n es (some x)

-- The search

acting_bound : {m u : ℕ} {o : Op} {n : ℕ} → m ≤ u → (t : ℕ) → ActsIn t (act o u n) → m ≤ t
acting_bound h t acts = h

module _ {g : ℕ → List Event} {f : Event} where
  apart_test : (e : Event) (after : List Event) → Reflects ((t : ℕ) × Apart g f t e after) (Rattle.theory.specs.verdicts.Search.apart g f e after)
  apart_test (act o t n) after = of_act (both (both (conflict_test (act o t n) f) (none_test (λ d. empties_test d f) after)) (fails (again_test t f after))) (fails (lead_test (act o t n) (fill_with g after) f))
    where
      of_act : {a b : Bool} → Reflects ((Conflict (act o t n) f × Every (λ d. ¬ Empties d f) after) × (¬ Again t f after)) a → Reflects (¬ Leads (act o t n) (fill_with g after) f) b →
          Reflects ((u : ℕ) × Apart g f u (act o t n) after) (elim a [ true ↦ b | false ↦ false ])
      of_act (right c) (right l) = right (t, record { against = record { by = acts; conflict = c.0.0; since = c.0.1 }; none = c.1; unordered = l })
      of_act (right c) (wrong l) = wrong (λ x. l x.1.unordered)
      of_act (wrong c) l = wrong (λ x. c ((x.1.against.conflict, x.1.against.since), latest x.1.against.by x.1.none))
        where
          latest : {u : ℕ} → ActsIn u (act o t n) → ¬ Again u f after → ¬ Again t f after
          latest acts n = n
  apart_test (lost mask) after = wrong (λ x. no_act x.1.against.by)
    where
      no_act : {t mask : ℕ} → ¬ ActsIn t (lost mask)
      no_act a = elim a [ ]

  pub candidate_first : {t : ℕ} {e : Event} {es : List Event} → Apart g f t e es → Candidate g f (e ∷ es) t zero
  candidate_first a = record { e = _; after = _; occurs = first; apart = a }

  pub candidate_next : {t i : ℕ} {e : Event} {es : List Event} → Candidate g f es t i → Candidate g f (e ∷ es) t (suc i)
  candidate_next c = record { e = c.e; after = c.after; occurs = next c.occurs; apart = c.apart }

  pub candidate_cases : {t i : ℕ} {e : Event} {es : List Event} → Candidate g f (e ∷ es) t i → Apart g f t e es ⊎ ((j : ℕ) × Candidate g f es t j)
  candidate_cases c = cases c.occurs c.apart
    where
      cases : {t i : ℕ} {d e : Event} {es after : List Event} → Occurs (e ∷ es) i d after → Apart g f t d after → Apart g f t e es ⊎ ((j : ℕ) × Candidate g f es t j)
      cases first a = inl a
      cases (next o) a = inr (_, record { e = _; after = _; occurs = o; apart = a })

  -- a bound on the tasks of all candidates, from one for the first event and one for the others
  bound : {m : ℕ} {e : Event} {es : List Event} → ((t : ℕ) → ActsIn t e → m ≤ t) → ((t j : ℕ) → Candidate g f es t j → m ≤ t) →
      (t i : ℕ) → Candidate g f (e ∷ es) t i → m ≤ t
  bound {m} {e} {es} here rest t i c = either (candidate_cases c)
    where
      either : Apart g f t e es ⊎ ((j : ℕ) × Candidate g f es t j) → m ≤ t
      either (inl a) = here t a.against.by
      either (inr (j, d)) = rest t j d

  with_lower : {n : ℕ} {o : Op} {t m : ℕ} {es : List Event} {y : Found} {b : Bool} (j : ℕ) → Apart g f t (act o t m) es → Candidate g f es y.task j →
      y.number ≡ suc n + j → ((u i : ℕ) → Candidate g f es u i → y.task ≤ u) → Reflects (t ≤ y.task) b →
      Outcome g f n (act o t m ∷ es) (some (cond b (record { task = t; number = n }) y))
  with_lower {n} {t = t} j a c e low (right h) =
      somebody {x = record { task = t; number = n }} zero (candidate_first a) (omega arith) (bound (acting_bound (omega arith)) (λ u i d. let l = low u i d in omega arith))
  with_lower {n} {y = y} j a c e low (wrong l) =
      somebody {x = y} (suc j) (candidate_next c) (omega arith) (bound (acting_bound (omega arith)) low)

  with_first : {n : ℕ} {o : Op} {t m : ℕ} {es : List Event} {x : Option Found} → Apart g f t (act o t m) es → Outcome g f (suc n) es x →
      Outcome g f n (act o t m ∷ es) (some (lower (record { task = t; number = n }) x))
  with_first {n} {t = t} a (nobody l) = somebody {x = record { task = t; number = n }} zero (candidate_first a) (omega arith) (bound (acting_bound (omega arith)) (λ u j c. absurd (l u j c)))
  with_first {t = t} a (somebody {x = y} j c e low) = with_lower j a c e low (at_most t y.task)

  without_first : {n : ℕ} {e : Event} {es : List Event} {x : Option Found} → ¬ ((t : ℕ) × Apart g f t e es) → Outcome g f (suc n) es x → Outcome g f n (e ∷ es) x
  without_first {e = e} {es = es} l (nobody q) = nobody (λ t i c. neither t (candidate_cases c))
    where
      neither : (t : ℕ) → Apart g f t e es ⊎ ((j : ℕ) × Candidate g f es t j) → ⊥
      neither t (inl a) = l (t, a)
      neither t (inr (j, c)) = q t j c
  without_first {e = e} {es = es} l (somebody {x = x} i c q low) = somebody {x = x} (suc i) (candidate_next c) (omega arith) (λ t j d. others t (candidate_cases d))
    where
      others : (t : ℕ) → Apart g f t e es ⊎ ((j : ℕ) × Candidate g f es t j) → x.task ≤ t
      others t (inl a) = absurd (l (t, a))
      others t (inr (j, d)) = low t j d

  pub partner_outcome : (n : ℕ) (es : List Event) → Outcome g f n es (partner g f n es)
  partner_outcome n [] = nobody (λ t i c. nowhere c.occurs)
  partner_outcome n (e ∷ es) = at_first (apart_test e es) (partner_outcome (suc n) es)
    where
      at_first : {e : Event} {es : List Event} {b : Bool} {x : Option Found} → Reflects ((t : ℕ) × Apart g f t e es) b → Outcome g f (suc n) es x →
          Outcome g f n (e ∷ es) (cond b (some (lower (found e n) x)) x)
      at_first (right (t, a)) r = of_act a.against.by a r
        where
          of_act : {t : ℕ} {e : Event} {es : List Event} {x : Option Found} → ActsIn t e → Apart g f t e es → Outcome g f (suc n) es x →
              Outcome g f n (e ∷ es) (some (lower (found e n) x))
          of_act acts a r = with_first a r
      at_first (wrong l) r = without_first l r

-- The partner

-- `Far i` is that the access at place i is apart from the one at place k; it has to agree with the filling g
module _ (g : ℕ → List Event) (Far : ℕ → Type 0) {es before : List Event} {k : ℕ} {p : Op} {u m : ℕ} (d : Ends es k before (act p u m))
    (agree : (i : ℕ) (o : Op) (t n : ℕ) (mid : List Event) → Occurs before i (act o t n) mid → Far i ↔ (¬ Leads (act o t n) (fill_with g mid) (act p u m))) where
  pub candidate_latest : {t i : ℕ} → Candidate g (act p u m) before t i → Latest es t i k
  candidate_latest c =
      let a = c.apart in
      final_latest d (record { x = c.e; after = c.after; occurs = c.occurs; against = a.against; none = a.none })

  pub candidate_far : {t i : ℕ} → Candidate g (act p u m) before t i → Far i
  candidate_far c = of_act c.apart.against.by c.occurs c.apart.unordered
    where
      of_act : {t i : ℕ} {e : Event} {mid : List Event} → ActsIn t e → Occurs before i e mid → ¬ Leads e (fill_with g mid) (act p u m) → Far i
      of_act acts o l = (agree _ _ _ _ _ o).1 l

  pub far_candidate : {t i : ℕ} → Latest es t i k → Far i → Candidate g (act p u m) before t i
  far_candidate l h =
      let a = latest_final d l in
      record { e = a.x; after = a.after; occurs = a.occurs; apart = record { against = a.against; none = a.none; unordered = of_act a.against.by a.occurs h } }
    where
      of_act : {t i : ℕ} {e : Event} {mid : List Event} → ActsIn t e → Occurs before i e mid → Far i → ¬ Leads e (fill_with g mid) (act p u m)
      of_act acts o h = (agree _ _ _ _ _ o).0 h

  pub outcome_partner : {x : Found} → Outcome g (act p u m) 1 before (some x) → (i : ℕ) × (x.number ≡ suc i) × Partner Far es i k
  outcome_partner (somebody i c e low) =
      (i, omega arith, record { task = _; latest = candidate_latest c; apart = candidate_far c; lowest = λ t j l h. low t j (far_candidate l h) })

  pub outcome_nobody : Outcome g (act p u m) 1 before none → (t i : ℕ) → Latest es t i k → ¬ Far i
  outcome_nobody (nobody q) t i l h = q t i (far_candidate l h)
