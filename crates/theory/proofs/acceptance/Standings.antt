-- Standings that agree refuse the same records, and that of an exact control table agrees with the recording's: so the table refuses what the recording
-- refuses. Assumes nothing.
use mathlib.Core.Path.{◌≡◌, refl, sym, ◌∙◌, ap, ap₂}
use mathlib.Core.Bool.{Bool, not, ◌&&◌, ◌||◌}
use mathlib.Core.List.{List, ◌∷◌}
use Prim.Native.Nat.{ℕ, zero, suc, ◌+◌, ◌≤◌, ◌<◌}
use native.Mathlib.Omega.{arith}
use lib.Dec.{eqb, ltb}
use lib.ListN.{length, drop}
use borrow.Author.Tests.{le-leb, lt-ltb, ne_eqb}
use Rattle.theory.specs.declared.record.Record.{Record}
use Rattle.theory.specs.order.Limits.{tasks, semaphores}
use Rattle.theory.specs.basics.Turns.{turns, any_below}
use Rattle.theory.specs.order.Recording.{Op, Event, kind, kinds, loss_mark, series_size}
use Rattle.theory.specs.fillings.Completion.{names}
use Rattle.theory.specs.acceptance.Table.{has_kind, Standing, ◌when◌, first_row, standing_refusal, standing, refusal}
use Rattle.theory.specs.acceptance.Owning.{Who, nobody, by, is_somebody, is_by, holder}
use Rattle.theory.specs.skipping.Skipping.{giver}
use Rattle.theory.specs.acceptance.Control.{gave_in, control_standing, control_refusal}
use Rattle.theory.proofs.basics.Reflects.{Reflects, right, wrong, equal, at_most}
use Rattle.theory.proofs.acceptance.Rows.{OfAct, act_rows, mark_rows, act_rows_lem, mark_rows_lem}
use Rattle.theory.proofs.acceptance.ControlTable.{who_number, ExactControl}

any_same : (n : ℕ) (p q : ℕ → Bool) → ((k : ℕ) → k < n → p k ≡ q k) → any_below n p ≡ any_below n q
unfolding turns
any_same zero p q e = refl
any_same (suc n) p q e = ap₂ ◌||◌ (any_same n p q (λ k h. e k (omega arith))) (e n (omega arith))

-- two standings agree on what the rows look at, for numbers within their series
pub record Agree (s s' : Standing) : Type 0 where
  pub count : s.count ≡ s'.count
  pub live : (t : ℕ) → t < tasks → s.live t ≡ s'.live t
  pub unseen : (t : ℕ) → t < tasks → s.unseen t ≡ s'.unseen t
  pub profile : s.profile ≡ s'.profile
  pub held : (n : ℕ) → n < semaphores → s.held n ≡ s'.held n
  pub holds : (n t : ℕ) → n < semaphores → s.holds n t ≡ s'.holds n t

module _ (s s' : Standing) (r : Record) (a : Agree s s') where
  -- a test of `on` counts only where `on` is of the op's series
  on_fitting : (o : Op) (p q : ℕ → Bool) → ((n : ℕ) → n < series_size (kind o) → p n ≡ q n) → r.on < series_size r.kind →
      (has_kind r o && p r.on) ≡ (has_kind r o && q r.on)
  on_fitting o p q f h = decided (equal r.kind (kind o))
    where
      decided : {b : Bool} → Reflects (r.kind ≡ kind o) b → (b && p r.on) ≡ (b && q r.on)
      decided (right w) = f r.on (rw w at h)
      decided (wrong d) = refl

  -- rows 2 and 3 come before the tests of an act's numbers
  act_same : first_row (act_rows s r) ≡ first_row (act_rows s' r)
  act_same = decided (at_most tasks r.task) (at_most (series_size r.kind) r.on)
    where
      decided : {a b : Bool} → Reflects (tasks ≤ r.task) a → Reflects (series_size r.kind ≤ r.on) b →
          first_row ((2 when a) ∷ (3 when b) ∷ drop 2 (act_rows s r)) ≡ first_row ((2 when a) ∷ (3 when b) ∷ drop 2 (act_rows s' r))
      decided (right _) _ = refl
      decided (wrong f) (right _) = refl
      decided (wrong f) (wrong g) =
          let h : r.on < series_size r.kind = omega arith in
          rw (
            a.count,
            a.live r.task (omega arith),
            a.profile,
            on_fitting Op.start (λ t. not (s.unseen t)) (λ t. not (s'.unseen t)) (λ t l. ap not (a.unseen t l)) h,
            on_fitting Op.join (λ t. not (s.live t)) (λ t. not (s'.live t)) (λ t l. ap not (a.live t l)) h,
            on_fitting Op.take s.held s'.held a.held h,
            on_fitting Op.give (λ n. not (s.holds n r.task)) (λ n. not (s'.holds n r.task)) (λ n l. ap not (a.holds n r.task l)) h,
          )

  mark_same : first_row (mark_rows s r) ≡ first_row (mark_rows s' r)
  mark_same =
      rw (
        a.count,
        a.profile,
        any_same tasks (λ t. names r.on t && not (s.live t)) (λ t. names r.on t && not (s'.live t))
            (λ t h. rw (a.live t h)),
      )

  -- standings that agree refuse the same records
  pub refusal_same : standing_refusal s r ≡ standing_refusal s' r
  refusal_same = decided (equal r.kind loss_mark) (at_most (length kinds) r.kind)
    where
      unknown : (s : Standing) → length kinds ≤ r.kind → standing_refusal s r ≡ 1
      unknown s h = unfold standing_refusal in rw (le-leb (length kinds) r.kind h)

      decided : {a b : Bool} → Reflects (r.kind ≡ loss_mark) a → Reflects (length kinds ≤ r.kind) b → standing_refusal s r ≡ standing_refusal s' r
      decided (right e) _ = mark_rows_lem s r e ∙ (mark_same ∙ sym (mark_rows_lem s' r e))
      decided (wrong f) (right h) = unknown s h ∙ sym (unknown s' h)
      decided (wrong f) (wrong g) =
          let a : OfAct r = record { known = omega arith; no_mark = f } in
          act_rows_lem s r a ∙ (act_same ∙ sym (act_rows_lem s' r a))

-- a task is told by its number, and nobody by none
held_number : (w : Who) → ltb 0 (who_number w) ≡ is_somebody w
held_number nobody = refl
held_number (by t) = lt-ltb 0 (t + 1) (omega arith)

by_number : (w : Who) (u : ℕ) → eqb (who_number w) (u + 1) ≡ is_by w u
by_number nobody u = ne_eqb 0 (u + 1) (λ q. omega arith)
by_number (by t) u = decided (equal (t + 1) (u + 1)) (equal t u)
  where
    decided : {a b : Bool} → Reflects (t + 1 ≡ u + 1) a → Reflects (t ≡ u) b → a ≡ b
    decided (right p) (right q) = refl
    decided (right p) (wrong d) = absurd (d (omega arith))
    decided (wrong d) (right q) = absurd (d (omega arith))
    decided (wrong d) (wrong f) = refl

agrees : {es : List Event} {control : List ℕ} → ExactControl es control → Agree (control_standing control) (standing es)
agrees {es} x =
    record {
      count = x.count;
      live = x.live;
      unseen = x.unseen;
      profile = x.profile;
      held = λ n h. ap (ltb 0) (x.holders.at n h) ∙ held_number (holder es n);
      holds = λ n t h. ap (λ (k : ℕ). eqb k (t + 1)) (x.holders.at n h) ∙ by_number (holder es n) t;
    }

-- so the table tells who gave a semaphore last
pub gave_same : {es : List Event} {control : List ℕ} → ExactControl es control → (n t : ℕ) → n < semaphores → gave_in control n t ≡ is_by (giver es n) t
gave_same {es} x n t h = ap (λ (k : ℕ). eqb k (t + 1)) (x.givers.at n h) ∙ by_number (giver es n) t

pub same_refusal : {es : List Event} {control : List ℕ} → ExactControl es control → (r : Record) → control_refusal control r ≡ refusal es r
same_refusal {es} {control} x r = refusal_same (control_standing control) (standing es) r (agrees x)
