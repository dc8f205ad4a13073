-- The takes that are skipped are those of the recording, and the control table counts them: of the clocks, and of the sets, which do not skip.
-- Assumes nothing.
use mathlib.Core.Path.{◌≡◌, refl, sym, ◌∙◌, ap, subst}
use mathlib.Core.Bool.{Bool, true, false, cond, ◌&&◌, ◌||◌, and-false, or_assoc}
use mathlib.Mathlib.Data.Bool.Basic.{or-eq-false-eq-eq-false-and-eq-false}
use mathlib.Core.Logic.{◌≢◌}
use mathlib.Core.List.{List, [], ◌∷◌, ◌++◌, append_assoc, append-nil}
use Prim.Native.Nat.{ℕ, zero, suc, ◌+◌, ◌≤◌, ◌<◌}
use native.Mathlib.Omega.{arith}
use borrow.Author.Tests.{eqb-false}
use lib.ListN.{length, get_or, set}
use lib.Seq.{get_or-set_other}
use Rattle.theory.specs.declared.record.Record.{Record}
use Rattle.theory.specs.order.Limits.{semaphores, records}
use Rattle.theory.specs.order.Recording.{Op, Event, act, lost, kind, series_size, loss_mark, event_of, ◌is◌}
use Rattle.theory.specs.acceptance.Owning.{is_owned, under, is_by}
use Rattle.theory.specs.acceptance.Table.{Fitting, Proper, standing, refusal, append_unless, extended, recording}
use Rattle.theory.specs.acceptance.Control.{count_at, profile_at, under_in, holder_at, giver_at, gave_in, skipped_at, skipped_in, skips_in, taken_by, given_by, counted, updated, control_after}
use Rattle.theory.specs.verdicts.Verdict.{Verdict, Race, Clear, Doubt}
use Rattle.theory.specs.basics.Turns.{indicator}
use Rattle.theory.specs.tables.Counters.{raise}
use Rattle.theory.specs.feeding.Meaning.{Meaning, refuses, takes, judges, meaning}
use Rattle.theory.specs.feeding.Step.{clock_kind, fresh_control, fresh_state, fresh_sets}
use Rattle.theory.specs.feeding.Feeding.{Checker, after_all, by_clocks, by_sets, checker_refusal}
use Rattle.theory.specs.totals.Totals.{races_at, total_at, with_verdict, totalled}
use Rattle.theory.specs.skipping.Skipping.{next_giver, giver, skips, skipped_from, skipped_takes}
use Rattle.theory.specs.skipping.Demands.{SkipsThese, CountsSkips, SkipsUnder}
use Rattle.theory.proofs.basics.Reflects.{Reflects, right, wrong, equal}
use Rattle.theory.proofs.order.Ops.{no_mark, event_act}
use Rattle.theory.proofs.tables.Counters.{Room, one_more_lem, raise_same, raise_other}
use Rattle.theory.proofs.acceptance.Rows.{allowed}
use Rattle.theory.proofs.acceptance.Accepted.{fits_of}
use Rattle.theory.proofs.acceptance.Owning.{who_none}
use Rattle.theory.proofs.acceptance.ControlTable.{ExactControl}
use Rattle.theory.proofs.acceptance.Standings.{gave_same, same_refusal}
use Rattle.theory.proofs.feeding.Simulation.{Shape, an_act, a_mark, shape_of, after_all_lem, clocks_simulate}
use Rattle.theory.proofs.totals.Kept.{CountsSo, clocks_keep, sets_keep, fresh_control_cell}

-- Which takes are skipped

-- outside the profile nobody gave a semaphore
take_skips : {es : List Event} {control : List ℕ} → ExactControl es control → (t n : ℕ) → n < semaphores → (under_in control && gave_in control n t) ≡ is_by (giver es n) t
take_skips {es} x t n h = rw (x.profile, gave_same x n t h) (decided (under es) refl)
  where
    decided : (b : Bool) → under es ≡ b → (b && is_by (giver es n) t) ≡ is_by (giver es n) t
    decided true q = refl
    decided false q = rw (who_none next_giver es n q)

-- those that the recording says
skips_same : {es : List Event} {control : List ℕ} {r : Record} → ExactControl es control → Shape es r → skips_in control r.kind r.task r.on ≡ skips es (event_of r)
skips_same {es} {control} x (an_act o t n a) = rw (event_act o t n) (decided (equal (kind o) (kind Op.take)))
  where
    decided : {b : Bool} → Reflects (kind o ≡ kind Op.take) b → (b && (under_in control && gave_in control n t)) ≡ (b && is_by (giver es n) t)
    decided (right q) = take_skips x t n (subst (λ (k : ℕ). n < series_size k) q a.fits.on_fits)
    decided (wrong d) = refl
skips_same x (a_mark t n m) = refl

-- so that these and no others move the clocks as a miss does
moves_as : {es : List Event} {control : List ℕ} {r : Record} → ExactControl es control → Shape es r →
    clock_kind control r.kind r.task r.on ≡ cond (skips es (event_of r)) (kind Op.miss) r.kind
moves_as {r = r} x h = ap (λ (b : Bool). cond b (kind Op.miss) r.kind) (skips_same x h)

pub clocks_skip_these : SkipsThese
clocks_skip_these rs r e = moves_as (after_all_lem clocks_simulate [] fresh_state rs clocks_simulate.begins).base.control_exact (shape_of (recording rs) r e)

-- The count of a recording

-- with one more record
skipped_snoc : (before es : List Event) (e : Event) → skipped_from before (es ++ (e ∷ [])) ≡ skipped_from before es + indicator (skips (before ++ es) e)
skipped_snoc before [] e = rw (append-nil before) (omega arith)
skipped_snoc before (d ∷ es) e = let p = skipped_snoc (before ++ (d ∷ [])) es e in let q = rw (append_assoc before (d ∷ []) es) at p in omega (arith, q)

-- no more than there are records
skipped_few : (before es : List Event) → skipped_from before es ≤ length es
skipped_few before [] = omega arith
skipped_few before (e ∷ es) = let p = skipped_few (before ++ (e ∷ [])) es in omega (arith, p, at_most_one (skips before e))
  where
    at_most_one : (b : Bool) → indicator b ≤ 1
    at_most_one true = omega arith
    at_most_one false = omega arith

-- The cell of the count

-- only a take moves it
module _ (k task on : ℕ) (control : List ℕ) (p : Proper k task on) where
  uncounted : k ≢ kind Op.take → get_or (updated k task on control) skipped_at 0 ≡ get_or control skipped_at 0
  uncounted n = decided (equal k (kind Op.start)) (equal k (kind Op.join)) (equal k (kind Op.take)) (equal k (kind Op.give)) (equal k (kind Op.owned))
    where
      one : (i v : ℕ) (c : List ℕ) → i < skipped_at → get_or (set c i v) skipped_at 0 ≡ get_or c skipped_at 0
      one i v c h = get_or-set_other c i skipped_at v 0 (λ q. omega arith)

      decided : {a b c d e : Bool} → Reflects (k ≡ kind Op.start) a → Reflects (k ≡ kind Op.join) b → Reflects (k ≡ kind Op.take) c → Reflects (k ≡ kind Op.give) d → Reflects (k ≡ kind Op.owned) e →
          get_or (cond a (set control on 1) (cond b (set control on 2) (cond c (taken_by task on control) (cond d (given_by task on control) (cond e (set control profile_at 1) control))))) skipped_at 0 ≡ get_or control skipped_at 0
      decided (right q) _ _ _ _ = let f = (fits_of p Op.start q).on_fits in one on 1 control (omega arith)
      decided (wrong _) (right q) _ _ _ = let f = (fits_of p Op.join q).on_fits in one on 2 control (omega arith)
      decided (wrong _) (wrong _) (right q) _ _ = absurd (n q)
      decided (wrong _) (wrong _) (wrong _) (right q) _ = let f : on < semaphores = (fits_of p Op.give q).on_fits in given f (under_in control)
        where
          given : on < semaphores → (b : Bool) → get_or (cond b (set (set control (holder_at on) 0) (giver_at on) (task + 1)) control) skipped_at 0 ≡ get_or control skipped_at 0
          given f true = one (giver_at on) (task + 1) (set control (holder_at on) 0) (omega arith) ∙ one (holder_at on) 0 control (omega arith)
          given f false = refl
      decided (wrong _) (wrong _) (wrong _) (wrong _) (right q) = one profile_at 1 control (omega arith)
      decided (wrong _) (wrong _) (wrong _) (wrong _) (wrong _) = refl

-- a take moves it under the profile, if it is by the last giver
taken_counted : (task s : ℕ) (control : List ℕ) → s < semaphores → skipped_at < length control → Room (skipped_in control) →
    skipped_in (taken_by task s control) ≡ skipped_in control + indicator (under_in control && gave_in control s task)
taken_counted task s control h l room = decided (under_in control) (gave_in control s task)
  where
    none : skipped_in control ≡ skipped_in control + 0
    none = omega arith

    decided : (b g : Bool) → skipped_in (cond b (set (cond g (raise skipped_at control) control) (holder_at s) (task + 1)) control) ≡ skipped_in control + indicator (b && g)
    decided true true = get_or-set_other (raise skipped_at control) (holder_at s) skipped_at (task + 1) 0 (λ q. omega arith) ∙ (raise_same skipped_at control l ∙ one_more_lem (skipped_in control) room)
    decided true false = get_or-set_other control (holder_at s) skipped_at (task + 1) 0 (λ q. omega arith) ∙ none
    decided false g = none

-- a verdict does not
verdict_uncounted : (w : Verdict) (v : ℕ) (control : List ℕ) → skipped_in (with_verdict w v control) ≡ skipped_in control
verdict_uncounted Clear v control = raise_other (total_at Clear v) skipped_at control (λ q. omega arith)
verdict_uncounted Race v control = raise_other races_at skipped_at _ (λ q. omega arith) ∙ raise_other (total_at Race v) skipped_at control (λ q. omega arith)
verdict_uncounted Doubt v control = raise_other (total_at Doubt v) skipped_at control (λ q. omega arith)

total_uncounted : (m : Meaning) (v : ℕ) (control : List ℕ) → skipped_in (totalled m v control) ≡ skipped_in control
total_uncounted (refuses n) v control = refl
total_uncounted (takes n) v control = refl
total_uncounted (judges n w p) v control = verdict_uncounted w v control

-- One accepted record

module _ {es : List Event} {control : List ℕ} (x : ExactControl es control) (same : skipped_in control ≡ skipped_takes es) (few : length es < records) where
  counted_other : (c : List ℕ) → skipped_in (counted c) ≡ skipped_in c
  counted_other c = get_or-set_other c count_at skipped_at _ 0 (λ q. omega arith)

  act_counted : (o : Op) (t n : ℕ) → Fitting (kind o) t n → skipped_in (control_after (kind o) t n control) ≡ skipped_in control + indicator (skips es (act o t n))
  act_counted o t n f = counted_other (updated (kind o) t n control) ∙ decided (equal (kind o) (kind Op.take))
    where
      proper : Proper (kind o) t n
      proper = record { act_fits = λ q. f; mark_names = λ q. absurd (eqb-false (kind o) loss_mark (no_mark o) q) }

      room : Room (skipped_in control)
      room = omega (arith, same, skipped_few [] es)

      taken : kind o ≡ kind Op.take → skipped_in (updated (kind o) t n control) ≡ skipped_in control + indicator (is_by (giver es n) t)
      taken q =
          let h : n < semaphores = (fits_of proper Op.take q).on_fits in
          ap (λ (k : ℕ). skipped_in (updated k t n control)) q
          ∙ (taken_counted t n control h (omega (arith, x.size)) room ∙ ap (λ (b : Bool). skipped_in control + indicator b) (take_skips x t n h))

      decided : {b : Bool} → Reflects (kind o ≡ kind Op.take) b → skipped_in (updated (kind o) t n control) ≡ skipped_in control + indicator (b && is_by (giver es n) t)
      decided (right q) = taken q
      decided (wrong d) = uncounted (kind o) t n control proper d ∙ (let z : skipped_in control ≡ skipped_in control + 0 = omega arith in z)

  -- moves the count by what it is
  record_counted : {r : Record} → Shape es r → skipped_in (control_after r.kind r.task r.on control) ≡ skipped_takes (es ++ (event_of r ∷ []))
  record_counted (an_act o t n a) = rw (event_act o t n) (omega (arith, act_counted o t n a.fits, same, skipped_snoc [] es (act o t n)))
  record_counted (a_mark t n m) = omega (arith, counted_other control, same, skipped_snoc [] es (lost n))

-- Lists of records

module _ {S : Type 0} {c : Checker S} {R : List Event → S → Type 0} (k : CountsSo c R) where
  step_counted : (es : List Event) (s : S) (r : Record) → R es s → skipped_in (c.control s) ≡ skipped_takes es →
      skipped_in (c.control (c.next s r)) ≡ skipped_takes (append_unless es r (refusal es r))
  step_counted es s r x same = decided (refusal es r) refl
    where
      row : checker_refusal c s r ≡ refusal es r
      row = same_refusal (k.exact es s x) r

      decided : (n : ℕ) → refusal es r ≡ n → skipped_in (c.control (c.next s r)) ≡ skipped_takes (append_unless es r n)
      decided zero e =
          ap skipped_in (k.taken s r (row ∙ e))
          ∙ (total_uncounted (meaning (c.answer s r)) r.on (control_after r.kind r.task r.on (c.control s))
          ∙ record_counted (k.exact es s x) same (allowed (standing es) r e).room (shape_of es r e))
      decided (suc n) e = ap (λ (y : S). skipped_in (c.control y)) (k.refused s r n (row ∙ e)) ∙ same

  -- after a list, from any such state
  counted_from : (es : List Event) (s : S) (rs : List Record) → R es s → skipped_in (c.control s) ≡ skipped_takes es → skipped_in (c.control (after_all c s rs)) ≡ skipped_takes (extended es rs)
  counted_from es s [] x same = same
  counted_from es s (r ∷ rs) x same = counted_from (append_unless es r (refusal es r)) (c.next s r) rs (k.simulates.steps es s r x).1 (step_counted es s r x same)

  counts_skips : c.control c.fresh ≡ fresh_control → CountsSkips c
  counts_skips fresh rs = counted_from [] c.fresh rs k.simulates.begins (rw fresh (fresh_control_cell skipped_at (omega arith) (omega arith)))

pub clocks_count_skips : CountsSkips by_clocks
unfolding fresh_state
clocks_count_skips = counts_skips clocks_keep refl

pub sets_count_skips : CountsSkips by_sets
unfolding fresh_sets
sets_count_skips = counts_skips sets_keep refl

-- Outside the profile

under_append : (before es : List Event) → under (before ++ es) ≡ (under before || under es)
under_append [] es = refl
under_append (d ∷ before) es = ap (λ (b : Bool). is_owned d || b) (under_append before es) ∙ sym (or_assoc (is_owned d) (under before) (under es))

none_skips : (es : List Event) (e : Event) → under es ≡ false → skips es e ≡ false
none_skips es (act o t n) q = rw (who_none next_giver es n q) (and-false (o is Op.take))
none_skips es (lost mask) q = refl

none_skipped : (before es : List Event) → under (before ++ es) ≡ false → skipped_from before es ≡ 0
none_skipped before [] q = refl
none_skipped before (e ∷ es) q =
    let p = none_skipped (before ++ (e ∷ [])) es (rw (append_assoc before (e ∷ []) es) q) in
    let z = (or-eq-false-eq-eq-false-and-eq-false (under before) (under (e ∷ es))).0 (sym (under_append before (e ∷ es)) ∙ q) in
    rw (none_skips before e z.0, p)

skips_under : {S : Type 0} (c : Checker S) → CountsSkips c → SkipsUnder c
skips_under c counts rs q = counts rs ∙ none_skipped [] (recording rs) q

pub clocks_skip_under : SkipsUnder by_clocks
clocks_skip_under = skips_under by_clocks clocks_count_skips

pub sets_skip_under : SkipsUnder by_sets
sets_skip_under = skips_under by_sets sets_count_skips
