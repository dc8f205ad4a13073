-- That a task has acted, in any filling. The tables have no row for what a join acquires: where the joined task has acted, that is what has
-- come to the task's next act, since a start comes before the task's acts. Assumes nothing.
use mathlib.Core.Path.{◌≡◌, refl, sym, ◌∙◌, subst}
use mathlib.Core.Bool.{Bool, true, false, cond, true≢false}
use mathlib.Core.Logic.{◌↔◌, ◌⊎◌, inl, inr}
use mathlib.Core.List.{List, [], ◌∷◌, ◌++◌}
use Prim.Native.Nat.{ℕ, ◌^◌, ◌<◌}
use native.Mathlib.Omega.{arith}
use lib.Dec.{T, eqb}
use Rattle.theory.specs.order.Recording.{Op, start, Effect, keeps, begins, ends, about, kind, Event, act, lost}
use Rattle.theory.specs.order.Limits.{tasks}
use Rattle.theory.specs.fillings.Completion.{Named, Filling, arrived, full, fills}
use Rattle.theory.specs.acceptance.Table.{Phase, is_live, is_unseen, apply_effect, next_phase, phase}
use Rattle.theory.proofs.acceptance.Noted.{phase_snoc}
use Rattle.theory.proofs.order.Carry.{Node, due, acted, Releases, own, own_next, own_acted, by_start}
use Rattle.theory.proofs.fillings.Reach.{acquired_some, nobody_named, acquired_due, released_due, released_acted}
use Rattle.theory.proofs.fillings.Fullest.{FillerAcquires}
use Rattle.theory.proofs.order.Tests.{Some, some_map, some_snoc, snoc_some, snoc_last}
use Rattle.theory.proofs.fillings.Came.{Came, Newly, Onward, came_next}
use Rattle.theory.proofs.basics.Reflects.{Reflects, right, wrong, equal}

-- Definition

-- the event, filled in, has acts of task t
abbrev pub ActsAs : Filling → ℕ → Event → Type 0
ActsAs w t (act o u n) = t ≡ u
ActsAs w t (lost mask) = Named (w mask) t

abbrev pub Acted : Filling → ℕ → List Event → Type 0
Acted w t es = Some (ActsAs w t) es

-- what has come to a task's having acted has come from or over an act of it, and what has come to the next act of a task that has acted
-- has come to its having acted
pub record Ended (w : Filling) (Chosen : Event → List Event → Type 0) (es : List Event) (i : ℕ) : Type 0 where
  pub acting : (t : ℕ) → Came w Chosen es i (acted t) → Acted w t es
  pub joined : (t : ℕ) → Acted w t es → Came w Chosen es i (due t) → Came w Chosen es i (acted t)

-- a filling that fills in for tasks that the mark names, and no others, nor numbers beyond them
pub record Restricts (w : Filling) : Type 0 where
  pub within : (mask t : ℕ) → Named (w mask) t → Named mask t
  pub bounded : (mask : ℕ) → mask < 2 ^ tasks → w mask < 2 ^ tasks
  pub asked : (mask : ℕ) → mask < 2 ^ tasks → ¬ (w mask ≡ 0) → T (fills w)

pub arrived_restricts : Restricts arrived
arrived_restricts = record { within = λ mask t d. absurd (nobody_named d); bounded = λ mask h. omega arith; asked = λ mask h n. absurd (n refl) }

pub full_restricts : Restricts full
full_restricts = record { within = λ mask t d. d; bounded = λ mask h. h; asked = λ mask h n. tt }

-- In the fullest filling each has acted who has in another

acts_full : {w : Filling} → Restricts w → (t : ℕ) (e : Event) → ActsAs w t e → ActsAs full t e
acts_full r t (act o u n) a = a
acts_full r t (lost mask) a = r.within mask t a

pub acted_full : {w : Filling} → Restricts w → {t : ℕ} {es : List Event} → Acted w t es → Acted full t es
acted_full r {t} a = some_map (acts_full r t) a

-- Acts

acted_releasing : {o : Op} {t n u : ℕ} → Releases (act o t n) (acted u) → u ≡ t
acted_releasing own_acted = refl

module _ {w : Filling} {Chosen : Event → List Event → Type 0} {Stays : Type 0} {es : List Event} {o : Op} {t n i : ℕ}
    (keeps : (e : Event) (after : List Event) → Chosen e (after ++ (act o t n ∷ [])) ↔ (Stays × Chosen e after))
    (starts : (u : ℕ) → Releases (act o t n) (due u) → (u ≡ t) ⊎ (¬ Acted w u es)) (x : Ended w Chosen es i) where
  -- what has come to the acting task's next act has come to its having acted
  own_joined : Came w Chosen (es ++ (act o t n ∷ [])) i (due t) → Came w Chosen (es ++ (act o t n ∷ [])) i (acted t)
  own_joined d = (came_next es (act o t n) keeps).1 (of ((came_next es (act o t n) keeps).0 d))
    where
      of : (Stays × Onward w Chosen es (act o t n) i (due t)) ⊎ (Newly Chosen es (act o t n) i × Releases (act o t n) (due t)) →
          (Stays × Onward w Chosen es (act o t n) i (acted t)) ⊎ (Newly Chosen es (act o t n) i × Releases (act o t n) (acted t))
      of (inl (s, inl d)) = inl (s, inr (due t, d, (own, own_acted)))
      of (inl (s, inr (p, d, (h, y)))) = inl (s, inr (p, d, (h, own_acted)))
      of (inr (d, y)) = inr (d, own_acted)

  -- of another task nothing changes, since it is not started any more
  other_joined : (u : ℕ) → ¬ (u ≡ t) → Acted w u es → Came w Chosen (es ++ (act o t n ∷ [])) i (due u) → Came w Chosen (es ++ (act o t n ∷ [])) i (acted u)
  other_joined u d a c = (came_next es (act o t n) keeps).1 (of ((came_next es (act o t n) keeps).0 c))
    where
      not_released : ¬ Releases (act o t n) (due u)
      not_released y = cases (starts u y)
        where
          cases : (u ≡ t) ⊎ (¬ Acted w u es) → ⊥
          cases (inl e) = d e
          cases (inr f) = f a

      of : (Stays × Onward w Chosen es (act o t n) i (due u)) ⊎ (Newly Chosen es (act o t n) i × Releases (act o t n) (due u)) →
          (Stays × Onward w Chosen es (act o t n) i (acted u)) ⊎ (Newly Chosen es (act o t n) i × Releases (act o t n) (acted u))
      of (inl (s, inl c)) = inl (s, inl (x.joined u a c))
      of (inl (s, inr (p, c, (h, y)))) = absurd (not_released y)
      of (inr (c, y)) = absurd (not_released y)

  pub ended_act : Ended w Chosen (es ++ (act o t n ∷ [])) i
  ended_act = record { acting = λ u c. acting_of u ((came_next es (act o t n) keeps).0 c); joined = λ u a c. joined_of u (equal u t) (some_snoc es a) c }
    where
      acting_of : (u : ℕ) → (Stays × Onward w Chosen es (act o t n) i (acted u)) ⊎ (Newly Chosen es (act o t n) i × Releases (act o t n) (acted u)) → Acted w u (es ++ (act o t n ∷ []))
      acting_of u (inl (s, inl c)) = snoc_some (act o t n) (x.acting u c)
      acting_of u (inl (s, inr (p, c, (h, y)))) = snoc_last es (act o t n) (acted_releasing y)
      acting_of u (inr (c, y)) = snoc_last es (act o t n) (acted_releasing y)

      joined_of : (u : ℕ) {b : Bool} → Reflects (u ≡ t) b → Acted w u es ⊎ (u ≡ t) → Came w Chosen (es ++ (act o t n ∷ [])) i (due u) → Came w Chosen (es ++ (act o t n ∷ [])) i (acted u)
      joined_of u (right e) a c =
          subst (λ (k : ℕ). Came w Chosen (es ++ (act o t n ∷ [])) i (acted k)) (sym e) (own_joined (subst (λ (k : ℕ). Came w Chosen (es ++ (act o t n ∷ [])) i (due k)) e c))
      joined_of u (wrong d) (inl a) c = other_joined u d a c
      joined_of u (wrong d) (inr e) c = absurd (d e)

-- Marks

pub no_releases : {mask : ℕ} {m : Node} → ¬ Releases (lost mask) m
no_releases x = elim x [ ]

module _ {w : Filling} {Chosen : Event → List Event → Type 0} {Stays : Type 0} {es : List Event} {i : ℕ} (mask : ℕ)
    (keeps : (e : Event) (after : List Event) → Chosen e (after ++ (lost mask ∷ [])) ↔ (Stays × Chosen e after)) where
  pub ended_mark : Stays → Ended w Chosen es i → Ended w Chosen (es ++ (lost mask ∷ [])) i
  ended_mark stays x = record { acting = λ u c. acting_of u ((came_next es (lost mask) keeps).0 c); joined = λ u a c. (came_next es (lost mask) keeps).1 (inl (stays, joined_of u (some_snoc es a) ((came_next es (lost mask) keeps).0 c))) }
    where
      acting_of : (u : ℕ) → (Stays × Onward w Chosen es (lost mask) i (acted u)) ⊎ (Newly Chosen es (lost mask) i × Releases (lost mask) (acted u)) → Acted w u (es ++ (lost mask ∷ []))
      acting_of u (inl (s, inl c)) = snoc_some (lost mask) (x.acting u c)
      acting_of u (inl (s, inr (p, c, (h, y)))) = snoc_last es (lost mask) (released_acted.0 y)
      acting_of u (inr (c, y)) = absurd (no_releases y)

      joined_of : (u : ℕ) → Acted w u es ⊎ Named (w mask) u → (Stays × Onward w Chosen es (lost mask) i (due u)) ⊎ (Newly Chosen es (lost mask) i × Releases (lost mask) (due u)) → Onward w Chosen es (lost mask) i (acted u)
      joined_of u (inl a) (inl (s, inl c)) = inl (x.joined u a c)
      joined_of u (inr d) (inl (s, inl c)) = inr (due u, c, (acquired_due.1 d, released_acted.1 d))
      joined_of u a (inl (s, inr (p, c, (h, y)))) = inr (p, c, (h, released_acted.1 (released_due.0 y)))
      joined_of u a (inr (c, y)) = absurd (no_releases y)

  -- where nobody's lost records are filled in a mark changes nothing
  module _ (none : w mask ≡ 0) where
    pub mark_came : {m : Node} → Came w Chosen (es ++ (lost mask ∷ [])) i m → Came w Chosen es i m
    mark_came d = of ((came_next es (lost mask) keeps).0 d)
      where
        of : {m : Node} → (Stays × Onward w Chosen es (lost mask) i m) ⊎ (Newly Chosen es (lost mask) i × Releases (lost mask) m) → Came w Chosen es i m
        of (inl (s, inl c)) = c
        of (inl (s, inr (p, c, (h, y)))) = absurd (nobody_named (acquired_some (subst (λ (k : ℕ). FillerAcquires k p) none h)).1)
        of (inr (c, y)) = absurd (no_releases y)

    pub came_mark : {m : Node} → Stays → Came w Chosen es i m → Came w Chosen (es ++ (lost mask ∷ [])) i m
    came_mark stays d = (came_next es (lost mask) keeps).1 (inl (stays, inl d))

-- Nothing has acted in the empty recording

pub none_acted : {w : Filling} {t : ℕ} → ¬ Acted w t []
none_acted a = elim a [ ]

-- A task that has acted is not unseen

pub record Seen (es : List Event) : Type 0 where
  pub seen : (t : ℕ) → Acted full t es → is_unseen (phase es t) ≡ false

live_seen : (p : Phase) → is_live p ≡ true → is_unseen p ≡ false
live_seen Phase.unseen e = absurd (true≢false (sym e))
live_seen Phase.live e = refl
live_seen Phase.ended e = refl

-- no event makes a task unseen
still_seen : (e : Event) (u : ℕ) (p : Phase) → is_unseen p ≡ false → is_unseen (next_phase e u p) ≡ false
still_seen (act o t n) u p h = of (eqb n u)
  where
    by : (e : Effect) → is_unseen (apply_effect e p) ≡ false
    by keeps = h
    by begins = refl
    by ends = refl

    of : (b : Bool) → is_unseen (cond b (apply_effect (about o).effect p) p) ≡ false
    of true = by (about o).effect
    of false = h
still_seen (lost mask) u p h = h

seen_next : (es : List Event) (e : Event) (t : ℕ) → is_unseen (phase es t) ≡ false → is_unseen (phase (es ++ (e ∷ [])) t) ≡ false
seen_next es e t h = rw (phase_snoc (cond (eqb t 0) Phase.live Phase.unseen) es e t) (still_seen e t (phase es t) h)

-- an event whose tasks are live
pub seen_event : {es : List Event} (e : Event) → ((t : ℕ) → ActsAs full t e → is_live (phase es t) ≡ true) → Seen es → Seen (es ++ (e ∷ []))
seen_event {es} e live s = record { seen = λ t a. seen_next es e t (of t (some_snoc es a)) }
  where
    of : (t : ℕ) → Acted full t es ⊎ ActsAs full t e → is_unseen (phase es t) ≡ false
    of t (inl a) = s.seen t a
    of t (inr a) = live_seen (phase es t) (live t a)

pub fresh_seen : Seen []
fresh_seen = record { seen = λ t a. absurd (none_acted a) }

-- so whom a start releases to has not acted
pub starts_unseen : {w : Filling} → Restricts w → {es : List Event} {o : Op} {t n : ℕ} → Seen es → (kind o ≡ kind start → is_unseen (phase es n) ≡ true) →
    (u : ℕ) → Releases (act o t n) (due u) → (u ≡ t) ⊎ (¬ Acted w u es)
starts_unseen r s f u own_next = inl refl
starts_unseen r s f u by_start = inr (λ a. true≢false (sym (f refl) ∙ s.seen u (acted_full r a)))
