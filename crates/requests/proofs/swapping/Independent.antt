-- What the proofs ask of two neighbours that may be swapped: they are independent. No step and no conflict is between them, neither empties the other's
-- history, and neither changes a phase, a holder or the profile that the other looks at. Unrelated records are independent; so is a miss of those that
-- have its semaphore.
-- Assumes nothing.
use mathlib.Core.Path.{◌≡◌, refl, sym, ◌∙◌, ap, subst}
use mathlib.Core.Bool.{Bool, true, false, cond, not, ◌&&◌, ◌||◌, true≢false}
use mathlib.Core.Logic.{◌⊎◌, inl, inr}
use mathlib.Core.List.{[], ◌∷◌}
use Prim.Native.Nat.{ℕ}
use lib.Dec.{T, eqb}
use Rattle.theory.specs.declared.record.Record.{Record}
use Rattle.theory.specs.order.Recording.{Op, take, give, start, join, owned, fresh, Event, act, lost, acts, Unmarked, no_events, an_act, is_access, event_of, Kind, of_op, of_mark, kinds, task, semaphore, profile, series}
use Rattle.theory.specs.order.Path.{Step, same_task, gives_takes, sets_looks, starts, joins, rule, Conflict, conflict, Empties, empties}
use Rattle.theory.specs.acceptance.Owning.{is_owned, Who, nobody, by, next_holder}
use Rattle.theory.specs.acceptance.Table.{Phase, next_phase}
use Rattle.requests.specs.swapping.Unrelated.{Names, names, sharing, MayShare, may_share, Premise, two_acts, actors_differ, names_no_actor, names_no_same, no_semaphore, no_flag, no_variable, none_owned, Holds, Unrelated, UnrelatedRecords, OneMisses, first_misses, second_misses, UnrelatedByMiss, MissedRecords}
use Rattle.theory.proofs.basics.Reflects.{Reflects, right, wrong, equal}
use Rattle.theory.proofs.acceptance.Owning.{ChangesHolder, by_take, by_give, holder_series}
use Rattle.theory.proofs.order.Ops.{all, each_op, Role, a_take, a_give, a_look, a_set, a_start, a_join, plain, role, same_op, keeps_phases, access_series}

-- Definition

pub data TwoActs : Event → Event → Type 0 where
  two : {o p : Op} {t u n m : ℕ} → TwoActs (act o t n) (act p u m)

pub record Independent (e f : Event) : Type 0 where
  pub both : TwoActs e f
  pub actors : Holds actors_differ e f
  pub actor_unnamed : Holds names_no_actor e f
  pub no_task : Holds names_no_same e f
  pub variables : Holds no_variable e f
  pub unowned : is_owned e ≡ false
  pub other_unowned : is_owned f ≡ false
  pub holders : (s : ℕ) → ChangesHolder s e → ¬ ChangesHolder s f
  pub step : ¬ Step e f
  pub step_back : ¬ Step f e

either_shares : {e f : Event} → MayShare e f → MayShare f e
either_shares (may_share s) = may_share s

either_act : {e f : Event} → TwoActs e f → TwoActs f e
either_act two = two

pub either_way : {e f : Event} → Independent e f → Independent f e
either_way z =
    record {
      both = either_act z.both;
      actors = λ t a b. z.actors t b a;
      actor_unnamed = λ t. ((z.actor_unnamed t).1, (z.actor_unnamed t).0);
      no_task = λ t a b. z.no_task t b a;
      variables = λ v a b. either_shares (z.variables v b a);
      unowned = z.other_unowned;
      other_unowned = z.unowned;
      holders = λ s a b. z.holders s b a;
      step = z.step_back;
      step_back = z.step;
    }

-- Unrelated records are independent

acts_of : {e f : Event} → Unmarked (e ∷ (f ∷ [])) → TwoActs e f
acts_of (an_act (an_act no_events)) = two

no_step : {e f : Event} → Holds actors_differ e f → Holds names_no_actor e f → Holds no_flag e f → ((s : ℕ) → ChangesHolder s e → ¬ ChangesHolder s f) → ¬ Step e f
no_step a n l h same_task = a _ acts acts
no_step a n l h gives_takes = h _ by_give by_take
no_step a n l h sets_looks = l _ (names refl) (names refl)
no_step a n l h starts = (n _).0 (names refl) acts
no_step a n l h joins = (n _).1 (names refl) acts

-- a record that names no profile does not begin it
is_unowned : (e : Event) → ((k : ℕ) → ¬ Names profile k e) → is_owned e ≡ false
is_unowned (act o t n) d = decided (same_op o owned)
  where
    decided : {b : Bool} → Reflects (o ≡ owned) b → b ≡ false
    decided (right q) = absurd (d n (names (ap series q)))
    decided (wrong f) = refl
is_unowned (lost mask) d = refl

-- from the premises but the one about semaphores
abbrev other : Premise → Bool
other two_acts = true
other actors_differ = true
other names_no_actor = true
other names_no_same = true
other no_semaphore = false
other no_flag = true
other no_variable = true
other none_owned = true

independent_by : {e f : Event} → ((q : Premise) → T (other q) → Holds q e f) → ((s : ℕ) → ChangesHolder s e → ¬ ChangesHolder s f) → Independent e f
independent_by {e} {f} met h =
    let a : Holds actors_differ e f = met actors_differ tt in
    let n : Holds names_no_actor e f = met names_no_actor tt in
    let l : Holds no_flag e f = met no_flag tt in
    record {
      both = acts_of (met two_acts tt);
      actors = a;
      actor_unnamed = n;
      no_task = met names_no_same tt;
      variables = met no_variable tt;
      unowned = is_unowned e (λ k. (met none_owned tt k).0);
      other_unowned = is_unowned f (λ k. (met none_owned tt k).1);
      holders = h;
      step = no_step a n l h;
      step_back = no_step (λ t x y. a t y x) (λ t. ((n t).1, (n t).0)) (λ x y z. l x z y) (λ s x y. h s y x);
    }

-- who changes the holder of a semaphore names it
of_semaphore : {s : ℕ} {e : Event} → ChangesHolder s e → Names semaphore s e
of_semaphore {s} (by_take {t}) = names (holder_series {s = s} {t = t} by_take)
of_semaphore {s} (by_give {t}) = names (holder_series {s = s} {t = t} by_give)

pub unrelated_independent : {e f : Event} → Unrelated e f → Independent e f
unrelated_independent z = independent_by (λ q h. z.holds q) (λ s a b. z.holds no_semaphore s (of_semaphore a) (of_semaphore b))

-- so is a miss of those that have its semaphore
pub missed_independent : {e f : Event} → UnrelatedByMiss e f → Independent e f
missed_independent {e} {f} z = independent_by met (λ s. misses s z.misses)
  where
    met : (q : Premise) → T (other q) → Holds q e f
    met q h = z.others q (λ e. subst (λ (p : Premise). T (other p)) e h)

    misses : {e f : Event} (s : ℕ) → OneMisses e f → ChangesHolder s e → ¬ ChangesHolder s f
    misses s first_misses a b = elim a [ ]
    misses s second_misses a b = elim b [ ]

-- neighbours of a list of records, as R has them
pub record Separates (R : Record → Record → Type 0) : Type 0 where
  pub independent : (r q : Record) → R r q → Independent (event_of r) (event_of q)

pub unrelated_separates : Separates UnrelatedRecords
unrelated_separates = record { independent = λ r q z. unrelated_independent z }

pub missed_separates : Separates MissedRecords
missed_separates = record { independent = λ r q z. missed_independent z }

-- No conflict, and no history emptied

both_true : (a b c : Bool) → T (a && (b && c)) → T a × T b × T c
both_true true true true x = (tt, tt, tt)
both_true true true false x = absurd x
both_true true false c x = absurd x
both_true false b c x = absurd x

-- two that may share a variable do not clash: tried out
shares_no_clash : Kind → Bool
shares_no_clash (of_op o) = not (sharing o) || not (rule o o)
shares_no_clash of_mark = true

sharing_tried : all shares_no_clash kinds ≡ true
unfolding rule shares_no_clash
sharing_tried = refl

share_nothing : {o p : Op} {t u n m : ℕ} → MayShare (act o t n) (act p u m) → ¬ T (rule o p)
unfolding shares_no_clash
share_nothing (may_share {o = o} s) c = of (sharing o) (rule o o) (each_op shares_no_clash sharing_tried refl o) s c
  where
    of : (a b : Bool) → (not a || not b) ≡ true → T a → ¬ T b
    of true true e s c = true≢false (sym e)
    of true false e s c = c
    of false b e s c = s

pub no_conflict : {e f : Event} → Independent e f → ¬ Conflict e f
no_conflict z (conflict {o = o} {p = p} {v = v} d c) =
    let (a, b, r) = both_true (is_access o) (is_access p) (rule o p) c in
    share_nothing (z.variables v (names (access_series o a)) (names (access_series p b))) r

shares_fresh : {e : Event} {u m : ℕ} → ¬ MayShare e (act fresh u m)
shares_fresh (may_share s) = s

-- what conflicts with an access keeps counting when the other record stands behind it
pub empties_nothing : {e d f : Event} → Independent e d → Conflict e f → ¬ Empties d f
empties_nothing z (conflict {o = o} {p = p} {v = v} d c) empties =
    shares_fresh (z.variables v (names (access_series o (both_true (is_access o) (is_access p) (rule o p) c).0)) (names refl))

-- and the history of an access when the other record stands before it
pub never_empties : {e d f : Event} → Independent d f → Conflict e f → ¬ Empties d f
never_empties z (conflict {o = o} {p = p} {v = v} d c) empties =
    shares_fresh (either_shares (z.variables v (names refl) (names (access_series p (both_true (is_access o) (is_access p) (rule o p) c).1))))

-- Phases and holders

-- a table that acts change at a number: an act is one of those that change it there, as P has them, or leaves what stands there
record Change (A : Type 0) (P : ℕ → Event → Type 0) (next : Event → ℕ → A → A) : Type 0 where
  changes : (o : Op) (t n x : ℕ) → P x (act o t n) ⊎ ((a : A) → next (act o t n) x a ≡ a)

module _ {A : Type 0} {P : ℕ → Event → Type 0} {next : Event → ℕ → A → A} (change : Change A P next) where
  kept : (o : Op) (t n x : ℕ) (a : A) → ¬ P x (act o t n) → next (act o t n) x a ≡ a
  kept o t n x a d = of (change.changes o t n x)
    where
      of : P x (act o t n) ⊎ ((a : A) → next (act o t n) x a ≡ a) → next (act o t n) x a ≡ a
      of (inl y) = absurd (d y)
      of (inr k) = k a

  -- two of which one leaves it come to the same in either order
  commutes : {e f : Event} → TwoActs e f → (x : ℕ) → (P x e → ¬ P x f) → (a : A) → next e x (next f x a) ≡ next f x (next e x a)
  commutes (two {o = o} {p = p} {t = t} {u = u} {n = n} {m = m}) x d a = of (change.changes o t n x)
    where
      of : P x (act o t n) ⊎ ((a : A) → next (act o t n) x a ≡ a) → next (act o t n) x (next (act p u m) x a) ≡ next (act p u m) x (next (act o t n) x a)
      of (inl y) = ap (next (act o t n) x) (kept p u m x a (d y)) ∙ sym (kept p u m x (next (act o t n) x a) (d y))
      of (inr k) = k (next (act p u m) x a) ∙ ap (next (act p u m) x) (sym (k a))

cond_same : {A : Type 0} (b : Bool) (x : A) → cond b x x ≡ x
cond_same true x = refl
cond_same false x = refl

-- q is what comes to stand at number n
at_number : {A : Type 0} {n x : ℕ} {b : Bool} (P : ℕ → Type 0) (q : A) → P x → Reflects (n ≡ x) b → P n ⊎ ((a : A) → cond b q a ≡ a)
at_number P q y (right e) = inl (subst P (sym e) y)
at_number P q y (wrong f) = inr (λ a. refl)

-- an act leaves the phase of a task that it does not name
phase_change : Change Phase (Names task) next_phase
phase_change = record { changes = λ o t n x. by_role t n x (role o) }
  where
    by_role : {o : Op} (t n x : ℕ) → Role o → Names task x (act o t n) ⊎ ((p : Phase) → next_phase (act o t n) x p ≡ p)
    by_role t n x a_take = inr (cond_same (eqb n x))
    by_role t n x a_give = inr (cond_same (eqb n x))
    by_role t n x a_look = inr (cond_same (eqb n x))
    by_role t n x a_set = inr (cond_same (eqb n x))
    by_role t n x a_start = at_number (λ k. Names task x (act start t k)) Phase.live (names refl) (equal n x)
    by_role t n x a_join = at_number (λ k. Names task x (act join t k)) Phase.ended (names refl) (equal n x)
    by_role {o} t n x (plain y) = inr (λ p. rw (keeps_phases o y.not_start y.not_join) (cond_same (eqb n x) p))

pub phase_kept : (o : Op) (t n x : ℕ) (p : Phase) → ¬ Names task x (act o t n) → next_phase (act o t n) x p ≡ p
phase_kept = kept phase_change

pub phases_commute : {e f : Event} → Independent e f → (x : ℕ) (p : Phase) → next_phase e x (next_phase f x p) ≡ next_phase f x (next_phase e x p)
phases_commute z x p = commutes phase_change z.both x (z.no_task x) p

-- and the holder of a semaphore that it does not take or give
holder_change : Change Who ChangesHolder next_holder
holder_change = record { changes = λ o t n s. by_role t n s (role o) }
  where
    by_role : {o : Op} (t n s : ℕ) → Role o → ChangesHolder s (act o t n) ⊎ ((h : Who) → next_holder (act o t n) s h ≡ h)
    by_role t n s a_take = at_number (λ k. ChangesHolder s (act take t k)) (by t) by_take (equal n s)
    by_role t n s a_give = at_number (λ k. ChangesHolder s (act give t k)) nobody by_give (equal n s)
    by_role t n s a_look = inr (cond_same (eqb n s))
    by_role t n s a_set = inr (cond_same (eqb n s))
    by_role t n s a_start = inr (cond_same (eqb n s))
    by_role t n s a_join = inr (cond_same (eqb n s))
    by_role t n s (plain y) = inr (λ h. rw (y.not_take, y.not_give) (cond_same (eqb n s) h))

pub holder_kept : (o : Op) (t n s : ℕ) (h : Who) → ¬ ChangesHolder s (act o t n) → next_holder (act o t n) s h ≡ h
holder_kept = kept holder_change

pub holders_commute : {e f : Event} → Independent e f → (s : ℕ) (h : Who) → next_holder e s (next_holder f s h) ≡ next_holder f s (next_holder e s h)
holders_commute z s h = commutes holder_change z.both s (z.holders s) h
