-- The control table is exact with one more event, if it was. Assumes nothing.
use mathlib.Core.Path.{◌≡◌, refl, sym, ◌∙◌, ap}
use mathlib.Core.Bool.{Bool, true, false, cond}
use mathlib.Core.Logic.{◌≢◌}
use mathlib.Core.List.{List, [], ◌∷◌, ◌++◌}
use Prim.Native.Nat.{ℕ, ◌+◌, ◌≤◌, ◌<◌}
use native.Mathlib.Omega.{arith}
use lib.Dec.{eqb}
use lib.ListN.{length, get_or, set, length-append, length-set}
use lib.Seq.{get_or-set_same, get_or-set_other}
use Rattle.theory.specs.order.Limits.{tasks, semaphores}
use Rattle.theory.specs.order.Recording.{Op, Event, act, lost, kind, loss_mark}
use Rattle.theory.specs.acceptance.Table.{Phase, is_live, is_unseen, next_phase, later_phase, phase, Fitting}
use Rattle.theory.specs.acceptance.Owning.{is_owned, under, Who, nobody, by, next_holder, who_since}
use Rattle.theory.specs.skipping.Skipping.{next_giver}
use Rattle.theory.specs.tables.Counters.{raise}
use Rattle.theory.specs.acceptance.Control.{live_in, unseen_in, count_in, profile_at, under_in, holder_at, giver_at, gave_in, skipped_at, counted, taken_by, given_by, control_after}
use Rattle.theory.proofs.basics.Reflects.{Reflects, right, wrong, equal}
use Rattle.theory.proofs.order.Ops.{Role, a_take, a_give, a_look, a_set, a_start, a_join, plain, role, keeps_phases, same_op, is_not}
use Rattle.theory.proofs.order.Numbered.{or_true}
use Rattle.theory.proofs.acceptance.Updated.{Rewritten, as_before, and_set, rewritten_length, rewritten_count, taken_rewrites, given_rewrites}
use Rattle.theory.proofs.acceptance.Owning.{under_snoc, under_kept, who_snoc, who_none, who_left}
use Rattle.theory.proofs.tables.Counters.{raise_length, raise_other}
use Rattle.theory.proofs.acceptance.ControlTable.{who_number, Written, written_in, ExactControl}

pub phase_snoc : (p : Phase) (es : List Event) (e : Event) (t : ℕ) → later_phase p (es ++ (e ∷ [])) t ≡ next_phase e t (later_phase p es t)
phase_snoc p [] e t = refl
phase_snoc p (d ∷ es) e t = phase_snoc (next_phase d t p) es e t

cond_same : {A : Type 0} (b : Bool) (p : A) → cond b p p ≡ p
cond_same true p = refl
cond_same false p = refl

-- the table holds task t's phase p
record Holds (control : List ℕ) (t : ℕ) (p : Phase) : Type 0 where
  live : live_in control t ≡ is_live p
  unseen : unseen_in control t ≡ is_unseen p

-- who it is for each semaphore, holder or last giver, in a table with one more event
module _ {place : ℕ → ℕ} {next : Event → ℕ → Who → Who} {es : List Event} {control : List ℕ} (x : Written place next es control) (e : Event) where
  -- an event that changes it for none, if it begins the profile or not
  who_same : ((s : ℕ) (h : Who) → next e s h ≡ h) → Written place next (es ++ (e ∷ [])) control
  who_same k = record { at = λ s l. x.at s l ∙ ap who_number (sym (who_left next es e s (k s (who_since next es s)))) }

  -- it is nobody outside the profile
  who_outside : under es ≡ false → Written place next (es ++ (e ∷ [])) control
  who_outside q = record { at = λ s l. x.at s l ∙ ap who_number (who_none next es s q ∙ sym (now s)) }
    where
      now : (s : ℕ) → who_since next (es ++ (e ∷ [])) s ≡ nobody
      now s = rw (who_snoc next es e s, q)

  -- an event after which, under the profile, it is w for semaphore n
  who_new : (after : List ℕ) (n : ℕ) (w : Who) → under es ≡ true → ((s : ℕ) (h : Who) → next e s h ≡ cond (eqb n s) w h) → get_or after (place n) 0 ≡ who_number w →
      ((s : ℕ) → s < semaphores → s ≢ n → get_or after (place s) 0 ≡ get_or control (place s) 0) → Written place next (es ++ (e ∷ [])) after
  who_new after n w q k same other = record { at = λ s l. decided s l (equal n s) ∙ ap who_number (sym (now s)) }
    where
      now : (s : ℕ) → who_since next (es ++ (e ∷ [])) s ≡ cond (eqb n s) w (who_since next es s)
      now s = rw (who_snoc next es e s, q) (k s (who_since next es s))

      decided : (s : ℕ) → s < semaphores → {b : Bool} → Reflects (n ≡ s) b → get_or after (place s) 0 ≡ who_number (cond b w (who_since next es s))
      decided s l (right v) = rw (← v) same
      decided s l (wrong d) = other s l (λ v. d (sym v)) ∙ x.at s l

module _ {es : List Event} {control : List ℕ} (x : ExactControl es control) where
  held : (t : ℕ) → t < tasks → Holds control t (phase es t)
  held t h = record { live = x.live t h; unseen = x.unseen t h }

  -- the event is counted in a table that holds all else as it is after it
  counted_in : (e : Event) (after : List ℕ) → Rewritten control after → ((t : ℕ) → t < tasks → Holds after t (next_phase e t (phase es t))) →
      under_in after ≡ under (es ++ (e ∷ [])) → Written holder_at next_holder (es ++ (e ∷ [])) after → Written giver_at next_giver (es ++ (e ∷ [])) after →
      ExactControl (es ++ (e ∷ [])) (counted after)
  counted_in e after w h p y z =
      record {
        size = length-set after tasks (count_in after + 1) ∙ (rewritten_length w ∙ x.size);
        count = get_or-set_same after tasks (count_in after + 1) 0 (omega (arith, x.size, rewritten_length w)) ∙ one_more_lem;
        live = λ t l. rw (other t (λ q. omega arith), phase_snoc (cond (eqb t 0) Phase.live Phase.unseen) es e t) (h t l).live;
        unseen = λ t l. rw (other t (λ q. omega arith), phase_snoc (cond (eqb t 0) Phase.live Phase.unseen) es e t) (h t l).unseen;
        profile = rw (other profile_at (λ q. omega arith)) p;
        holders = written_in y (counted after) (λ s l. other (holder_at s) (λ q. omega arith));
        givers = written_in z (counted after) (λ s l. other (giver_at s) (λ q. omega arith));
      }
    where
      one_more_lem : count_in after + 1 ≡ length (es ++ (e ∷ []))
      one_more_lem = rw (rewritten_count w, x.count, length-append es (e ∷ []))

      other : (i : ℕ) → i ≢ tasks → get_or (set after tasks (count_in after + 1)) i 0 ≡ get_or after i 0
      other i n = get_or-set_other after tasks i (count_in after + 1) 0 n

  same_profile : (e : Event) → is_owned e ≡ false → under_in control ≡ under (es ++ (e ∷ []))
  same_profile e q = x.profile ∙ sym (under_kept es e q)

  -- an event that changes nothing here
  unchanged : (e : Event) → ((t : ℕ) (p : Phase) → next_phase e t p ≡ p) → is_owned e ≡ false → ((s : ℕ) (h : Who) → next_holder e s h ≡ h) → ((s : ℕ) (h : Who) → next_giver e s h ≡ h) →
      ExactControl (es ++ (e ∷ [])) (counted control)
  unchanged e k q h g =
      counted_in e control as_before (λ t l. rw (k t (phase es t)) (held t l)) (same_profile e q) (who_same x.holders e h) (who_same x.givers e g)

  -- an event after which task n is in phase q, which the table has as v
  new_phase : (e : Event) (n v : ℕ) (q : Phase) → n < tasks → eqb v 1 ≡ is_live q → eqb v 0 ≡ is_unseen q →
      ((t : ℕ) (p : Phase) → next_phase e t p ≡ cond (eqb n t) q p) → is_owned e ≡ false → ((s : ℕ) (h : Who) → next_holder e s h ≡ h) → ((s : ℕ) (h : Who) → next_giver e s h ≡ h) →
      ExactControl (es ++ (e ∷ [])) (counted (set control n v))
  new_phase e n v q fits l u k o h g =
      counted_in e (set control n v) (and_set as_before n v (omega arith) (λ w. omega arith))
      (λ t h. rw (k t (phase es t)) (decided t h (equal n t)))
      (rw (other profile_at (omega arith)) (same_profile e o))
      (written_in (who_same x.holders e h) (set control n v) (λ s l. other (holder_at s) (omega arith)))
      (written_in (who_same x.givers e g) (set control n v) (λ s l. other (giver_at s) (omega arith)))
    where
      same : get_or (set control n v) n 0 ≡ v
      same = get_or-set_same control n v 0 (omega (arith, x.size))

      other : (i : ℕ) → tasks ≤ i → get_or (set control n v) i 0 ≡ get_or control i 0
      other i l = get_or-set_other control n i v 0 (λ w. omega arith)

      decided : (t : ℕ) → t < tasks → {b : Bool} → Reflects (n ≡ t) b → Holds (set control n v) t (cond b q (phase es t))
      decided t h (right w) = rw (← w) (record { live = rw same l; unseen = rw same u })
      decided t h (wrong d) =
          let o = get_or-set_other control n t v 0 (λ w. d (sym w)) in
          record { live = rw o (x.live t h); unseen = rw o (x.unseen t h) }

  -- an event that under the profile writes holders and last givers alone, and outside it nothing
  owning : (e : Event) (after : List ℕ) → ((t : ℕ) (p : Phase) → next_phase e t p ≡ p) → is_owned e ≡ false → Rewritten control after →
      ((i : ℕ) → i < holder_at 0 → get_or after i 0 ≡ get_or control i 0) →
      (under es ≡ true → Written holder_at next_holder (es ++ (e ∷ [])) after × Written giver_at next_giver (es ++ (e ∷ [])) after) →
      ExactControl (es ++ (e ∷ [])) (counted (cond (under_in control) after control))
  owning e after k q w front writes = decided (under_in control) refl
    where
      phases : (t : ℕ) → t < tasks → Holds control t (next_phase e t (phase es t))
      phases t l = rw (k t (phase es t)) (held t l)

      decided : (b : Bool) → under_in control ≡ b → ExactControl (es ++ (e ∷ [])) (counted (cond b after control))
      decided true z =
          let (h, g) = writes (sym x.profile ∙ z) in
          counted_in e after w (λ t l. let o = front t (omega arith) in let p = phases t l in record { live = rw o p.live; unseen = rw o p.unseen })
          (rw (front profile_at (omega arith)) (same_profile e q)) h g
      decided false z =
          let none = sym x.profile ∙ z in
          counted_in e control as_before phases (same_profile e q) (who_outside x.holders e none) (who_outside x.givers e none)

  -- a take
  new_holder : (t n : ℕ) → n < semaphores → ExactControl (es ++ (act Op.take t n ∷ [])) (counted (taken_by t n control))
  new_holder t n fits =
      owning (act Op.take t n) after (λ u p. cond_same (eqb n u) p) refl (taken_rewrites t n control fits (gave_in control n t))
      (λ i l. other i (λ v. omega arith) (λ v. omega arith))
      (λ q. (
        who_new x.holders (act Op.take t n) after n (by t) q (λ s h. refl) same (λ s l d. other (holder_at s) (λ v. d (omega arith)) (λ v. omega arith)),
        written_in (who_same x.givers (act Op.take t n) (λ s h. cond_same (eqb n s) h)) after (λ s l. other (giver_at s) (λ v. omega arith) (λ v. omega arith)),
      ))
    where
      skipped : Bool → List ℕ
      skipped b = cond b (raise skipped_at control) control

      after : List ℕ
      after = set (skipped (gave_in control n t)) (holder_at n) (t + 1)

      same_length : (b : Bool) → length (skipped b) ≡ length control
      same_length true = raise_length skipped_at control
      same_length false = refl

      same : get_or after (holder_at n) 0 ≡ t + 1
      same = get_or-set_same (skipped (gave_in control n t)) (holder_at n) (t + 1) 0 (omega (arith, x.size, same_length (gave_in control n t)))

      but_count : (b : Bool) (i : ℕ) → i ≢ skipped_at → get_or (skipped b) i 0 ≡ get_or control i 0
      but_count true i d = raise_other skipped_at i control d
      but_count false i d = refl

      other : (i : ℕ) → i ≢ holder_at n → i ≢ skipped_at → get_or after i 0 ≡ get_or control i 0
      other i d f = get_or-set_other (skipped (gave_in control n t)) (holder_at n) i (t + 1) 0 d ∙ but_count (gave_in control n t) i f

  -- a give
  new_giver : (t n : ℕ) → n < semaphores → ExactControl (es ++ (act Op.give t n ∷ [])) (counted (given_by t n control))
  new_giver t n fits =
      owning (act Op.give t n) after (λ u p. cond_same (eqb n u) p) refl (given_rewrites t n control fits)
      (λ i l. other i (λ v. omega arith) (λ v. omega arith))
      (λ q. (
        who_new x.holders (act Op.give t n) after n nobody q (λ s h. refl) free (λ s l d. other (holder_at s) (λ v. d (omega arith)) (λ v. omega arith)),
        who_new x.givers (act Op.give t n) after n (by t) q (λ s h. refl) gave (λ s l d. other (giver_at s) (λ v. omega arith) (λ v. d (omega arith))),
      ))
    where
      freed : List ℕ
      freed = set control (holder_at n) 0

      after : List ℕ
      after = set freed (giver_at n) (t + 1)

      free : get_or after (holder_at n) 0 ≡ 0
      free = get_or-set_other freed (giver_at n) (holder_at n) (t + 1) 0 (λ v. omega arith) ∙ get_or-set_same control (holder_at n) 0 0 (omega (arith, x.size))

      gave : get_or after (giver_at n) 0 ≡ t + 1
      gave = get_or-set_same freed (giver_at n) (t + 1) 0 (omega (arith, x.size, length-set control (holder_at n) 0))

      other : (i : ℕ) → i ≢ holder_at n → i ≢ giver_at n → get_or after i 0 ≡ get_or control i 0
      other i d f = get_or-set_other freed (giver_at n) i (t + 1) 0 f ∙ get_or-set_other control (holder_at n) i 0 0 d

  -- the event that begins the profile
  new_profile : (e : Event) → ((t : ℕ) (p : Phase) → next_phase e t p ≡ p) → is_owned e ≡ true → ((s : ℕ) (h : Who) → next_holder e s h ≡ h) → ((s : ℕ) (h : Who) → next_giver e s h ≡ h) →
      ExactControl (es ++ (e ∷ [])) (counted (set control profile_at 1))
  new_profile e k q h g =
      counted_in e (set control profile_at 1) (and_set as_before profile_at 1 (omega arith) (λ v. omega arith))
      (λ t l. rw (k t (phase es t)) (let o = other t (λ v. omega arith) in let p = held t l in record { live = rw o p.live; unseen = rw o p.unseen }))
      (rw (get_or-set_same control profile_at 1 0 (omega (arith, x.size)), under_snoc es e, q, or_true (under es)))
      (written_in (who_same x.holders e h) (set control profile_at 1) (λ s l. other (holder_at s) (λ v. omega arith)))
      (written_in (who_same x.givers e g) (set control profile_at 1) (λ s l. other (giver_at s) (λ v. omega arith)))
    where
      other : (i : ℕ) → i ≢ profile_at → get_or (set control profile_at 1) i 0 ≡ get_or control i 0
      other i d = get_or-set_other control profile_at i 1 0 d

  pub control_act : (o : Op) {t n : ℕ} → Fitting (kind o) t n → ExactControl (es ++ (act o t n ∷ [])) (control_after (kind o) t n control)
  control_act o {t} {n} f = by_role (role o) f
    where
      by_role : {o : Op} → Role o → Fitting (kind o) t n → ExactControl (es ++ (act o t n ∷ [])) (control_after (kind o) t n control)
      by_role a_take f = new_holder t n f.on_fits
      by_role a_give f = new_giver t n f.on_fits
      by_role a_look f = unchanged (act Op.look t n) (λ u p. cond_same (eqb n u) p) refl (λ s h. cond_same (eqb n s) h) (λ s h. cond_same (eqb n s) h)
      by_role a_set f = unchanged (act Op.set t n) (λ u p. cond_same (eqb n u) p) refl (λ s h. cond_same (eqb n s) h) (λ s h. cond_same (eqb n s) h)
      by_role a_start f = new_phase (act Op.start t n) n 1 Phase.live f.on_fits refl refl (λ u p. refl) refl (λ s h. cond_same (eqb n s) h) (λ s h. cond_same (eqb n s) h)
      by_role a_join f = new_phase (act Op.join t n) n 2 Phase.ended f.on_fits refl refl (λ u p. refl) refl (λ s h. cond_same (eqb n s) h) (λ s h. cond_same (eqb n s) h)
      by_role {o} (plain x) f = decided (same_op o Op.owned)
        where
          phases : (u : ℕ) (p : Phase) → next_phase (act o t n) u p ≡ p
          phases u p = rw (keeps_phases o x.not_start x.not_join) (cond_same (eqb n u) p)

          holders : (s : ℕ) (h : Who) → next_holder (act o t n) s h ≡ h
          holders s h = rw (x.not_take, x.not_give) (cond_same (eqb n s) h)

          givers : (s : ℕ) (h : Who) → next_giver (act o t n) s h ≡ h
          givers s h = rw x.not_give (cond_same (eqb n s) h)

          decided : {b : Bool} → Reflects (o ≡ Op.owned) b → ExactControl (es ++ (act o t n ∷ [])) (control_after (kind o) t n control)
          decided (right e) = rw e (new_profile (act Op.owned t n) (λ u p. cond_same (eqb n u) p) refl (λ s h. cond_same (eqb n s) h) (λ s h. cond_same (eqb n s) h))
          decided (wrong d) = rw (x.not_start, x.not_join, x.not_take, x.not_give, is_not d) (unchanged (act o t n) phases (is_not d) holders givers)

  pub control_mark : (mask task on : ℕ) → ExactControl (es ++ (lost mask ∷ [])) (control_after loss_mark task on control)
  control_mark mask task on = unchanged (lost mask) (λ t p. refl) refl (λ s h. refl) (λ s h. refl)
