-- What has come to a semaphore has come to its holder's next act, and to that of the task that gave it last: so its last giver learns nothing by taking it
-- again, whatever else it holds, and in any filling. Assumes nothing.
use mathlib.Core.Path.{◌≡◌, refl, sym, ◌∙◌}
use mathlib.Core.Bool.{Bool, true, false, cond, true≢false}
use mathlib.Core.Logic.{◌⊎◌, inl, inr}
use mathlib.Core.List.{List, [], ◌∷◌, ◌++◌}
use Prim.Native.Nat.{ℕ}
use native.Mathlib.Omega.{arith}
use Rattle.theory.specs.order.Recording.{Op, take, give, Event, act, lost}
use Rattle.theory.specs.fillings.Completion.{Filling}
use Rattle.theory.specs.acceptance.Owning.{under, nobody, by, next_holder, holder, KeepsProfile}
use Rattle.theory.specs.skipping.Skipping.{next_giver, giver}
use Rattle.theory.proofs.basics.Reflects.{Reflects, right, wrong, equal}
use Rattle.theory.proofs.acceptance.Owning.{who_snoc}
use Rattle.theory.proofs.order.Ops.{same_op}
use Rattle.theory.proofs.order.Carry.{Node, due, semaphore, by_take, Releases, own_next, by_give}
use Rattle.theory.proofs.order.Places.{Occurs, nowhere}
use Rattle.theory.proofs.fillings.Reach.{Flow, Reach, reach_start, reach_next}
use Rattle.theory.proofs.fillings.Came.{Snoc, old, new, occurs_snoc}

-- Holders and last givers

by_one : {t u : ℕ} → by t ≡ by u → t ≡ u
by_one e = cc

nobody_by : {t : ℕ} → ¬ (nobody ≡ by t)
nobody_by e = let z : ◌≡◌ {A = ℕ} 0 1 = cc in omega arith

-- semaphore s is held by task t, or was given last by it
pub data Had (es : List Event) (s t : ℕ) : Type 0 where
  holding : holder es s ≡ by t → Had es s t
  gave : giver es s ≡ by t → Had es s t

-- nobody has, outside the profile
had_under : (es : List Event) (e : Event) {s t : ℕ} → Had (es ++ (e ∷ [])) s t → under es ≡ true
had_under es e {s} {t} h = decided (under es) refl h
  where
    decided : (b : Bool) → under es ≡ b → Had (es ++ (e ∷ [])) s t → b ≡ true
    decided true q h = refl
    decided false q (holding k) = absurd (nobody_by (rw (who_snoc next_holder es e s, q) at k))
    decided false q (gave k) = absurd (nobody_by (rw (who_snoc next_giver es e s, q) at k))

-- why task t is one that has, after an act under the profile
data Cause (es : List Event) (o : Op) (u n s t : ℕ) : Type 0 where
  before : Had es s t → ¬ ((n ≡ s) × (o ≡ give)) → Cause es o u n s t
  takes : n ≡ s → o ≡ take → u ≡ t → Cause es o u n s t
  gives : n ≡ s → o ≡ give → u ≡ t → Cause es o u n s t

cause : {es : List Event} {o : Op} {u n s t : ℕ} → under es ≡ true → Had (es ++ (act o u n ∷ [])) s t → Cause es o u n s t
cause {es} {o} {u} {n} {s} {t} q (holding k) = decided (equal n s) (same_op o take) (same_op o give) (rw (who_snoc next_holder es (act o u n) s, q) at k)
  where
    decided : {a b c : Bool} → Reflects (n ≡ s) a → Reflects (o ≡ take) b → Reflects (o ≡ give) c → cond a (cond b (by u) (cond c nobody (holder es s))) (holder es s) ≡ by t → Cause es o u n s t
    decided (right m) (right p) _ k = takes m p (by_one k)
    decided (right m) (wrong _) (right p) k = absurd (nobody_by k)
    decided (right m) (wrong _) (wrong f) k = before (holding k) (λ x. f x.1)
    decided (wrong f) _ _ k = before (holding k) (λ x. f x.0)
cause {es} {o} {u} {n} {s} {t} q (gave k) = decided (equal n s) (same_op o give) (rw (who_snoc next_giver es (act o u n) s, q) at k)
  where
    decided : {a b : Bool} → Reflects (n ≡ s) a → Reflects (o ≡ give) b → cond a (cond b (by u) (giver es s)) (giver es s) ≡ by t → Cause es o u n s t
    decided (right m) (right p) k = gives m p (by_one k)
    decided (right m) (wrong f) k = before (gave k) (λ x. f x.1)
    decided (wrong f) _ k = before (gave k) (λ x. f x.0)

-- What has come to the semaphore

pub record Learnt (es : List Event) : Type 0 where
  pub learnt : (w : Filling) {s t j : ℕ} {e : Event} {after : List Event} → Had es s t → Occurs es j e after → Reach w e after (semaphore s) → Reach w e after (due t)

pub fresh_learnt : Learnt []
fresh_learnt = record { learnt = λ w h o r. absurd (nowhere o) }

-- only a give of the semaphore releases to it
given_by_lem : {o : Op} {u n s : ℕ} → Releases (act o u n) (semaphore s) → (n ≡ s) × (o ≡ give)
given_by_lem by_give = (refl, refl)

module _ {es : List Event} (x : Learnt es) {o : Op} {u n s t : ℕ} (k : KeepsProfile es (act o u n)) (under : under es ≡ true) (c : Cause es o u n s t) (w : Filling) where
  -- a record that releases to the semaphore is the task's own
  own_release : Releases (act o u n) (semaphore s) → Releases (act o u n) (due t)
  own_release r = of c
    where
      of : Cause es o u n s t → Releases (act o u n) (due t)
      of (before h f) = absurd (f (given_by_lem r))
      of (takes m p q) = rw (← q) own_next
      of (gives m p q) = rw (← q) own_next

  learnt_act : {j : ℕ} {e : Event} {after : List Event} → Snoc es (act o u n) j e after → Reach w e after (semaphore s) → Reach w e after (due t)
  learnt_act (old {e = e} {after = after} occurs) r = (reach_next after (act o u n)).1 (moved ((reach_next after (act o u n)).0 r))
    where
      came : Cause es o u n s t → Reach w e after (semaphore s) → Reach w e after (due t) ⊎ ((p : Node) × Reach w e after p × Flow w (act o u n) p (due t))
      came (before h f) y = inl (x.learnt w h occurs y)
      came (takes m p q) y = inr (semaphore s, y, (rw (m, p) by_take, rw (← q) own_next))
      came (gives m p q) y = inl (x.learnt w (holding (rw (← m, ← q) (k.gives_own u n (rw p) under))) occurs y)

      moved : Reach w e after (semaphore s) ⊎ ((p : Node) × Reach w e after p × Flow w (act o u n) p (semaphore s)) →
          Reach w e after (due t) ⊎ ((p : Node) × Reach w e after p × Flow w (act o u n) p (due t))
      moved (inl y) = came c y
      moved (inr (p, y, (a, b))) = inr (p, y, (a, own_release b))
  learnt_act new r = reach_start.1 (own_release (reach_start.0 r))

pub learnt_next : {es : List Event} (e : Event) → KeepsProfile es e → Learnt es → Learnt (es ++ (e ∷ []))
learnt_next {es} (act o u n) k x = record { learnt = λ w h y r. let q = had_under es (act o u n) h in learnt_act x k q (cause q h) w (occurs_snoc es y) r }
learnt_next {es} (lost mask) k x = record { learnt = λ w h y r. absurd (true≢false (sym (had_under es (lost mask) h) ∙ k.no_mark mask refl)) }
