-- The swapped list is accepted: the two records leave the phases, the profile and the holders that the other looks at, and after both the standing is
-- the same.
-- Assumes nothing.
use mathlib.Core.Path.{◌≡◌, refl, sym, ◌∙◌, ap, ap₂, subst}
use mathlib.Core.Bool.{Bool, true, false, cond, not, ◌&&◌, ◌||◌}
use mathlib.Core.Logic.{◌≢◌}
use mathlib.Core.List.{List, [], ◌∷◌, ◌++◌}
use Prim.Native.Nat.{ℕ, zero, suc, ◌<◌}
use native.Mathlib.Omega.{arith}
use borrow.Author.Tests.{lt-leb, eqb-false}
use lib.Dec.{eqb}
use lib.ListN.{length, length-append}
use Rattle.theory.specs.declared.record.Record.{Record}
use Rattle.theory.specs.order.Limits.{records}
use Rattle.theory.specs.order.Recording.{Op, take, give, start, join, owned, ◌is◌, Event, act, lost, kind, loss_mark, event_of, acts, task, series}
use Rattle.theory.specs.acceptance.Owning.{is_owned, under, Who, nobody, is_somebody, is_by, next_holder, holder}
use Rattle.theory.specs.acceptance.Table.{Phase, is_live, is_unseen, next_phase, phase, standing, first_row, standing_refusal, refusal}
use Rattle.requests.specs.swapping.Unrelated.{names}
use Rattle.requests.specs.swapping.Swaps.{Swapped, these, later}
use Rattle.theory.proofs.basics.Reflects.{Reflects, right, wrong}
use Rattle.theory.proofs.order.Ops.{same_op, no_mark, event_act}
use Rattle.theory.proofs.acceptance.Rows.{OfAct, act_rows, act_rows_lem, allowed}
use Rattle.theory.proofs.acceptance.Owning.{under_snoc, under_kept, ChangesHolder, by_take, by_give, who_snoc, who_left}
use Rattle.theory.proofs.acceptance.Noted.{phase_snoc}
use Rattle.theory.proofs.feeding.Simulation.{Shape, an_act, a_mark, shape_of}
use Rattle.requests.proofs.swapping.Independent.{Separates, Independent, TwoActs, either_way, phase_kept, phases_commute, holder_kept, holders_commute}

-- A list whose every record is accepted, after a recording

pub data Taken : List Event → List Record → Type 0 where
  none_left : {es : List Event} → Taken es []
  and_taken : {es : List Event} {r : Record} {rs : List Record} → refusal es r ≡ 0 → Taken (es ++ (event_of r ∷ [])) rs → Taken es (r ∷ rs)

-- What acceptance looks at

-- two recordings after which the same is accepted
pub record SameStanding (es es' : List Event) : Type 0 where
  pub phases : (t : ℕ) → phase es t ≡ phase es' t
  pub count : length es ≡ length es'
  pub profile : under es ≡ under es'
  pub holders : (s : ℕ) → holder es s ≡ holder es' s

same_refusal : {es es' : List Event} → SameStanding es es' → (r : Record) → refusal es r ≡ refusal es' r
same_refusal s r i =
    standing_refusal
    (record {
      live = λ t. is_live (s.phases t i);
      unseen = λ t. is_unseen (s.phases t i);
      count = s.count i;
      profile = s.profile i;
      held = λ k. is_somebody (s.holders k i);
      holds = λ k t. is_by (s.holders k i) t;
    })
    r

phase_next : (es : List Event) (e : Event) (t : ℕ) → phase (es ++ (e ∷ [])) t ≡ next_phase e t (phase es t)
phase_next es e t = phase_snoc (cond (eqb t zero) Phase.live Phase.unseen) es e t

longer : (es : List Event) (e : Event) → length (es ++ (e ∷ [])) ≡ suc (length es)
longer es e = let q = length-append es (e ∷ []) in omega arith

standing_next : {es es' : List Event} (e : Event) → SameStanding es es' → SameStanding (es ++ (e ∷ [])) (es' ++ (e ∷ []))
standing_next {es} {es'} e s =
    record {
      phases = λ t. phase_next es e t ∙ (ap (next_phase e t) (s.phases t) ∙ sym (phase_next es' e t));
      count = longer es e ∙ (ap suc s.count ∙ sym (longer es' e));
      profile = under_snoc es e ∙ (ap (λ (b : Bool). b || is_owned e) s.profile ∙ sym (under_snoc es' e));
      holders = λ k. who_snoc next_holder es e k ∙ (ap₂ (λ (b : Bool) (h : Who). cond b (next_holder e k h) nobody) s.profile (s.holders k) ∙ sym (who_snoc next_holder es' e k));
    }

pub taken_same : {es es' : List Event} {rs : List Record} → SameStanding es es' → Taken es rs → Taken es' rs
taken_same s none_left = none_left
taken_same s (and_taken {r = r} z k) = and_taken (sym (same_refusal s r) ∙ z) (taken_same (standing_next (event_of r) s) k)

-- An act that is no `owned` is refused alike after two recordings that have room and agree on the task that acts, the task that it names, the profile and
-- the holder of the semaphore that it takes or gives

module _ (p : Op) (u m : ℕ) (es es' : List Event) (room : length es < records) (room' : length es' < records)
    (actor : phase es u ≡ phase es' u) (named : series p ≡ task → phase es m ≡ phase es' m)
    (unowned : (p is owned) ≡ false) (profile : under es ≡ under es') (held : ChangesHolder m (act p u m) → holder es m ≡ holder es' m) where
  -- a test of the op and of what it looks at
  by_op : {A : Type 0} {x y : A} (o : Op) (test : A → Bool) → (p ≡ o → x ≡ y) → ((p is o) && test x) ≡ ((p is o) && test y)
  by_op {x = x} {y = y} o test e = decided (same_op p o)
    where
      decided : {b : Bool} → Reflects (p ≡ o) b → (b && test x) ≡ (b && test y)
      decided (right q) = ap test (e q)
      decided (wrong f) = refl

  handled : {o : Op} → ChangesHolder m (act o u m) → p ≡ o → holder es m ≡ holder es' m
  handled c q = held (subst (λ (o : Op). ChangesHolder m (act o u m)) (sym q) c)

  abbrev r : Record
  r = record { kind = kind p; task = u; on = m }

  same_rows : first_row (act_rows (standing es) r) ≡ first_row (act_rows (standing es') r)
  same_rows =
      rw (
        lt-leb records (length es) room,
        lt-leb records (length es') room',
        actor,
        by_op start (λ x. not (is_unseen x)) (λ q. named (ap series q)),
        by_op join (λ x. not (is_live x)) (λ q. named (ap series q)),
        unowned,
        profile,
        by_op take is_somebody (handled by_take),
        by_op give (λ x. not (is_by x u)) (handled by_give),
      )

  pub same_act : OfAct r → refusal es r ≡ refusal es' r
  same_act a = act_rows_lem (standing es) r a ∙ (same_rows ∙ sym (act_rows_lem (standing es') r a))

-- Two unrelated acts

-- the phases, the profile and the holder that the one looks at stand as they were after the other
module _ {o p : Op} {t u n m : ℕ} (x : Independent (act o t n) (act p u m)) (es : List Event) where
  actor_kept : phase (es ++ (act o t n ∷ [])) u ≡ phase es u
  actor_kept = phase_next es (act o t n) u ∙ phase_kept o t n u (phase es u) (λ y. (x.actor_unnamed u).0 y acts)

  named_kept : series p ≡ task → phase (es ++ (act o t n ∷ [])) m ≡ phase es m
  named_kept e = phase_next es (act o t n) m ∙ phase_kept o t n m (phase es m) (λ y. x.no_task m y (names e))

  held_kept : ChangesHolder m (act p u m) → holder (es ++ (act o t n ∷ [])) m ≡ holder es m
  held_kept c = who_left next_holder es (act o t n) m (holder_kept o t n m (holder es m) (λ y. x.holders m y c))

  -- the other one, after it and without it
  refused_alike : length (es ++ (act o t n ∷ [])) < records → length es < records →
      OfAct (record { kind = kind p; task = u; on = m }) →
      refusal (es ++ (act o t n ∷ [])) (record { kind = kind p; task = u; on = m }) ≡ refusal es (record { kind = kind p; task = u; on = m })
  refused_alike room room' a = same_act p u m (es ++ (act o t n ∷ [])) es room room' actor_kept named_kept x.other_unowned (under_kept es (act o t n) x.unowned) held_kept a

-- the holder after both
holder_after : (es : List Event) (e f : Event) (s : ℕ) → is_owned e ≡ false →
    holder ((es ++ (e ∷ [])) ++ (f ∷ [])) s ≡ cond (under es) (next_holder f s (next_holder e s (holder es s))) nobody
holder_after es e f s d =
    who_snoc next_holder (es ++ (e ∷ [])) f s
    ∙ (ap₂ (λ (b : Bool) (h : Who). cond b (next_holder f s h) nobody) (under_kept es e d) (who_snoc next_holder es e s) ∙ of (under es))
  where
    of : (b : Bool) → cond b (next_holder f s (cond b (next_holder e s (holder es s)) nobody)) nobody ≡ cond b (next_holder f s (next_holder e s (holder es s))) nobody
    of true = refl
    of false = refl

pub standing_swapped : (es : List Event) {e f : Event} → Independent e f → SameStanding ((es ++ (e ∷ [])) ++ (f ∷ [])) ((es ++ (f ∷ [])) ++ (e ∷ []))
standing_swapped es {e} {f} z =
    record {
      phases = λ t.
          phase_next (es ++ (e ∷ [])) f t
          ∙ (ap (next_phase f t) (phase_next es e t)
          ∙ (phases_commute (either_way z) t (phase es t) ∙ (ap (next_phase e t) (sym (phase_next es f t)) ∙ sym (phase_next (es ++ (f ∷ [])) e t))));
      count = longer (es ++ (e ∷ [])) f ∙ (ap suc (longer es e ∙ sym (longer es f)) ∙ sym (longer (es ++ (f ∷ [])) e));
      profile = of_neither z ∙ sym (of_neither (either_way z));
      holders = λ s.
          holder_after es e f s z.unowned
          ∙ (ap (λ (h : Who). cond (under es) h nobody) (holders_commute (either_way z) s (holder es s)) ∙ sym (holder_after es f e s z.other_unowned));
    }
  where
    of_neither : {e f : Event} → Independent e f → under ((es ++ (e ∷ [])) ++ (f ∷ [])) ≡ under es
    of_neither {e} {f} z = under_kept (es ++ (e ∷ [])) f z.other_unowned ∙ under_kept es e z.unowned

-- marks are never among them
no_mark_first : {mask : ℕ} {f : Event} → ¬ Independent (lost mask) f
no_mark_first x = of x.both
  where
    of : {mask : ℕ} {f : Event} → ¬ TwoActs (lost mask) f
    of y = elim y [ ]

no_mark_second : {mask : ℕ} {e : Event} → ¬ Independent e (lost mask)
no_mark_second x = of x.both
  where
    of : {mask : ℕ} {e : Event} → ¬ TwoActs e (lost mask)
    of y = elim y [ ]

is_no_mark : (o : Op) → kind o ≢ loss_mark
is_no_mark o e = eqb-false (kind o) loss_mark (no_mark o) e

-- the two are accepted in either order
module _ {o p : Op} {t u n m : ℕ} (x : Independent (act o t n) (act p u m)) (es : List Event) where
  abbrev first : Record
  first = record { kind = kind o; task = t; on = n }

  abbrev second : Record
  second = record { kind = kind p; task = u; on = m }

  other_accepted : refusal es first ≡ 0 → refusal (es ++ (act o t n ∷ [])) second ≡ 0 → (refusal es second ≡ 0) × (refusal (es ++ (act p u m ∷ [])) first ≡ 0)
  other_accepted a b =
      let k = allowed (standing es) first a in
      let l = allowed (standing (es ++ (act o t n ∷ []))) second b in
      let room : length es < records = k.room in
      let room_one : suc (length es) < records = subst (λ (i : ℕ). i < records) (longer es (act o t n)) l.room in
      let room_other : length (es ++ (act p u m ∷ [])) < records = subst (λ (i : ℕ). i < records) (sym (longer es (act p u m))) room_one in
      let y = either_way x in (
        sym (refused_alike x es l.room room (record { known = l.known; no_mark = is_no_mark p })) ∙ b,
        refused_alike y es room_other room (record { known = k.known; no_mark = is_no_mark o }) ∙ a,
      )

-- records as they are fed
swap_accepted : {es : List Event} {r q : Record} → Shape es r → Shape (es ++ (event_of r ∷ [])) q → Independent (event_of r) (event_of q) →
    refusal es r ≡ 0 → refusal (es ++ (event_of r ∷ [])) q ≡ 0 → (refusal es q ≡ 0) × (refusal (es ++ (event_of q ∷ [])) r ≡ 0)
swap_accepted {es} (an_act o t n _) (an_act p u m _) x a b = rw (event_act p u m) (other_accepted (rw (event_act o t n, event_act p u m) at x) es a (rw (event_act o t n) at b))
swap_accepted (an_act o t n _) (a_mark u m _) x a b = absurd (no_mark_second x)
swap_accepted (a_mark t n _) k x a b = absurd (no_mark_first x)

-- The whole list

pub taken_swapped : {R : Record → Record → Type 0} {es : List Event} {rs rs' : List Record} → Separates R → Swapped R rs rs' → Taken es rs → Taken es rs'
taken_swapped {es = es} i (these {x = r} {y = q} y) (and_taken a (and_taken b k)) =
    let z = i.independent r q y in
    let (c, d) = swap_accepted (shape_of es r a) (shape_of (es ++ (event_of r ∷ [])) q b) z a b in
    and_taken c (and_taken d (taken_same (standing_swapped es z) k))
taken_swapped {es = es} i (later {x = x} s) (and_taken a k) = and_taken a (taken_swapped {es = es ++ (event_of x ∷ [])} i s k)
