-- Demands 2 and 3 over recordings, for the verdict that goes by the recording as it arrived and the fullest completion; and the
-- partner that goes with it. Assumes nothing.
use mathlib.Core.Path.{◌≡◌, refl, ap}
use mathlib.Core.Logic.{◌↔◌}
use mathlib.Core.List.{List, ◌∷◌}
use mathlib.Core.Option.{Option, none, some}
use Prim.Native.Nat.{ℕ, zero, suc, ◌≤◌}
use native.Mathlib.Omega.{arith}
use lib.ListN as ListN
use lib.ListN.{get_or}
use Rattle.theory.specs.order.Recording.{Op, Event, act, lost, At, Unmarked, no_events, an_act}
use Rattle.theory.specs.order.Path.{Conflict, conflict}
use Rattle.theory.specs.fillings.Completion.{Filled, done, keep, Completion, place, nothing, rounds, fullest}
use Rattle.theory.specs.verdicts.Verdict.{Verdict, Race, Clear, Doubt, AccessAt, Earlier, Latest, Racy, Unordered, Partner, ApartInAll, ApartAsArrived, With, clear, race, doubt}
use Rattle.theory.specs.verdicts.Demands.{Always, Never, Firm, Demand2, Demand3}
use Rattle.theory.specs.verdicts.Search.{Found, judgement, judge, judge_at, verdict_at}
use Rattle.theory.proofs.order.Places.{Ends, ends, onward, at_ends}
use Rattle.theory.proofs.fillings.Bounds.{arrived_completes, fullest_completes, path_survives, path_most, path_arrived, apart_as_arrived, apart_in_all}
use Rattle.theory.proofs.verdicts.Latest.{latest_as_arrived, latest_in_completion}
use Rattle.theory.proofs.verdicts.Search.{Outcome, partner_outcome, outcome_partner, outcome_nobody}

-- Racy accesses between the bounds

-- the two accesses of an earlier conflicting one are acts
pub both_act : {es : List Event} {t i k : ℕ} {A : Type 0} → Earlier es t i k →
    ((o p : Op) (v u w : ℕ) → At es i (act o v w) → At es k (act p u w) → A) → A
both_act a h = apply a.from a.to a.against.conflict h
  where
    apply : {es : List Event} {i k : ℕ} {e f : Event} {A : Type 0} → At es i e → At es k f → Conflict e f →
        ((o p : Op) (v u w : ℕ) → At es i (act o v w) → At es k (act p u w) → A) → A
    apply x y (conflict _ _) h = h _ _ _ _ _ x y

pub racy_arrived : {es fs : List Event} {k : ℕ} (c : Completion es fs) → Racy c k → Unordered es k
racy_arrived c (t, i, a, n) = (t, i, a, λ q. n (both_act a (λ o p v u w x y. path_survives c x y q)))

pub arrived_racy : {es : List Event} {k : ℕ} → Unordered es k → Racy (arrived_completes es) k
arrived_racy (t, i, a, n) = (t, i, a, λ q. n (both_act a (λ o p v u w x y. path_arrived x y q)))

-- What the judge found

-- the verdict and partner of the access at place k, with what makes them so
pub data Ruling (es : List Event) (k : ℕ) : Verdict → ℕ → Type 0 where
  by_fullest : {i : ℕ} → Partner (ApartInAll es k) es i k → Ruling es k Race (suc i)
  by_both : {i : ℕ} → ((t j : ℕ) → Latest es t j k → ¬ ApartInAll es k j) → Partner (ApartAsArrived es k) es i k → Ruling es k Doubt (suc i)
  by_arrived : ((t j : ℕ) → Latest es t j k → ¬ ApartAsArrived es k j) → Ruling es k Clear zero

module _ {es before : List Event} {k : ℕ} {p : Op} {u m : ℕ} (d : Ends es k before (act p u m)) where
  ruled : {x y : Option Found} → Outcome rounds (act p u m) 1 before x → Outcome nothing (act p u m) 1 before y →
      Ruling es k (judgement x y).verdict (judgement x y).partner
  ruled {x = some x} full arrived =
      let (i, e, q) = outcome_partner rounds (ApartInAll es k) d (λ i o t n mid s. apart_in_all d s) full in
      rw e (by_fullest q)
  ruled {x = none} {y = some y} full arrived =
      let (i, e, q) = outcome_partner nothing (ApartAsArrived es k) d (λ i o t n mid s. apart_as_arrived d s) arrived in
      rw e (by_both (outcome_nobody rounds (ApartInAll es k) d (λ i o t n mid s. apart_in_all d s) full) q)
  ruled {x = none} {y = none} full arrived = by_arrived (outcome_nobody nothing (ApartAsArrived es k) d (λ i o t n mid s. apart_as_arrived d s) arrived)

  pub judge_ruling : Ruling es k (judge before (act p u m)).verdict (judge before (act p u m)).partner
  unfolding judge
  judge_ruling = ruled (partner_outcome 1 before) (partner_outcome 1 before)

ends_take : {es before : List Event} {k : ℕ} {f : Event} → Ends es k before f → ListN.take k es ≡ before
ends_take ends = refl
ends_take (onward {x = x} d) = ap (λ (l : List Event). x ∷ l) (ends_take d)

ends_get_d : {es before : List Event} {k : ℕ} {f : Event} (z : Event) → Ends es k before f → get_or es k z ≡ f
ends_get_d z ends = refl
ends_get_d z (onward d) = ends_get_d z d

pub ruling_at : (es : List Event) (k : ℕ) → AccessAt es k → Ruling es k (judge_at es k).verdict (judge_at es k).partner
ruling_at es k a =
    let (before, d) = at_ends a.at in
    rw (ends_take d, ends_get_d (lost zero) d) (judge_ruling d)

-- The verdict

number : Verdict → ℕ
number Race = 0
number Clear = 1
number Doubt = 2

-- two verdicts with other numbers differ
differ : {v w : Verdict} → ¬ (number v ≡ number w) → ¬ (v ≡ w)
differ n e = n (ap number e)

pub ruling_firm : {es : List Event} {k : ℕ} {v : Verdict} {w : ℕ} → Ruling es k v w → Firm es k v
unfolding number
ruling_firm {es} {k} (by_fullest {i = i} p) =
    record {
      race = (λ e. always, λ a. refl);
      clear = (λ e. absurd (differ (omega arith) e), λ never. absurd (never _ (fullest_completes es) (always _ (fullest_completes es))));
      doubt = (λ e. absurd (differ (omega arith) e), λ s. absurd (s.1.2 (always _ s.1.1)));
    }
  where
    always : Always es k
    always fs c = (p.task, i, p.latest.earlier, p.apart fs c)
ruling_firm {es} {k} (by_both {i = i} n p) =
    record {
      race = (λ e. absurd (differ (omega arith) e), λ a. absurd (not_fullest (a (fullest es) (fullest_completes es))));
      clear = (λ e. absurd (differ (omega arith) e), λ never. absurd (never _ (arrived_completes es) (arrived_racy unordered)));
      doubt = (λ e. ((_, arrived_completes es, arrived_racy unordered), (_, fullest_completes es, not_fullest)), λ s. refl);
    }
  where
    unordered : Unordered es k
    unordered = (p.task, i, p.latest.earlier, p.apart)

    not_fullest : ¬ Racy (fullest_completes es) k
    not_fullest r =
        let (t, j, l, q) = (latest_in_completion (fullest_completes es)).0 r in
        n t j l (λ fs c x. q (both_act l.earlier (λ o p v u w y z. path_most c y z x)))
ruling_firm {es} {k} (by_arrived n) =
    record {
      race = (λ e. absurd (differ (omega arith) e), λ a. absurd (never _ (arrived_completes es) (a _ (arrived_completes es))));
      clear = (λ e. never, λ s. refl);
      doubt = (λ e. absurd (differ (omega arith) e), λ s. absurd (never _ s.0.1 s.0.2));
    }
  where
    never : Never es k
    never fs c r = let (t, j, l, q) = latest_as_arrived.0 (racy_arrived c r) in n t j l q

-- demand 3
pub demand3 : Demand3 verdict_at
demand3 es k a = ruling_firm (ruling_at es k a)

-- Without marks

unmarked_filled : {F : ℕ → List Event → Type 0} {es fs : List Event} → Unmarked es → Filled F es fs → fs ≡ es
unmarked_filled no_events done = refl
unmarked_filled (an_act u) (keep {o = o} {t = t} {n = n} c) = ap (λ (l : List Event). act o t n ∷ l) (unmarked_filled u c)

unmarked_place : {F : ℕ → List Event → Type 0} {es fs : List Event} → Unmarked es → (c : Filled F es fs) (i : ℕ) → place c i ≡ i
unmarked_place no_events done i = refl
unmarked_place (an_act u) (keep c) zero = refl
unmarked_place (an_act u) (keep c) (suc i) = ap suc (unmarked_place u c i)

-- each completion is the recording itself
unmarked_racy : {es fs : List Event} {k : ℕ} → Unmarked es → (c : Completion es fs) → Unordered es k → Racy c k
unmarked_racy {es} {fs} {k} u c (t, i, a, n) = (t, i, a, λ q. n (rw (unmarked_place u c i, unmarked_place u c k, unmarked_filled u c) at q))

-- what is firm without marks is as demand 2 has it
pub firm_unmarked : {es : List Event} {k : ℕ} {v : Verdict} → Unmarked es → Firm es k v → ((v ≡ Race) ↔ Unordered es k) × ((v ≡ Clear) ↔ (¬ Unordered es k))
firm_unmarked {es} u f = (
  (λ e. racy_arrived (arrived_completes es) (f.race.0 e _ (arrived_completes es)), λ x. f.race.1 (λ fs c. unmarked_racy u c x)),
  (λ e x. f.clear.0 e _ (arrived_completes es) (arrived_racy x), λ n. f.clear.1 (λ fs c r. n (racy_arrived c r))),
)

-- demand 2
pub demand2 : Demand2 verdict_at
demand2 es k u a = firm_unmarked u (demand3 es k a)

-- The partner

pub ruling_with : {es : List Event} {k : ℕ} {v : Verdict} {w : ℕ} → Ruling es k v w → With es k v w
ruling_with (by_fullest p) = race p
ruling_with (by_both n p) = doubt p
ruling_with (by_arrived n) = clear

-- the partner is that of document 01
pub with_at : (es : List Event) (k : ℕ) → AccessAt es k → With es k (judge_at es k).verdict (judge_at es k).partner
with_at es k a = ruling_with (ruling_at es k a)

-- there is only one
partner_unique : {Far : ℕ → Type 0} {es : List Event} {i j k : ℕ} → Partner Far es i k → Partner Far es j k → i ≡ j
partner_unique {es = es} {i = i} {j = j} {k = k} p q =
    let h = p.lowest q.task j q.latest q.apart in
    let l = q.lowest p.task i p.latest p.apart in
    latest_unique p.latest (rw (same_task h l) q.latest)
  where
    same_task : p.task ≤ q.task → q.task ≤ p.task → p.task ≡ q.task
    same_task h l = omega arith

    latest_unique : {t : ℕ} → Latest es t i k → Latest es t j k → i ≡ j
    latest_unique a b = let h = a.latest j b.earlier in let l = b.latest i a.earlier in omega arith

pub with_unique : {es : List Event} {k : ℕ} {v : Verdict} {w w' : ℕ} → With es k v w → With es k v w' → w ≡ w'
with_unique clear clear = refl
with_unique (race p) (race q) = ap suc (partner_unique p q)
with_unique (doubt p) (doubt q) = ap suc (partner_unique p q)
