-- Feeding answers what the recording so far says: of the clocks and of the sets. Assumes nothing.
use mathlib.Core.Path.{◌≡◌, refl, sym, ◌∙◌, ap, ap₂, subst}
use mathlib.Core.Bool.{Bool, true, false}
use mathlib.Core.List.{List, [], ◌∷◌, ◌++◌, map}
use Prim.Native.Nat.{ℕ, zero, suc, ◌+◌, ◌/◌, ◌%◌, ◌^◌, ◌<◌}
use native.Mathlib.Nat.{pow-suc}
use native.Mathlib.Omega.{arith}
use borrow.Author.Tests.{eq-eqb}
use lib.Dec.{T}
use lib.Pow.{shr-shr}
use lib.ListN.{length, replicate}
use Rattle.theory.specs.declared.record.Record.{Record}
use Rattle.theory.specs.declared.state.State.{State}
use Rattle.theory.specs.declared.state.Stepped.{Stepped}
use Rattle.theory.specs.declared.state.SetState.{SetState}
use Rattle.theory.specs.order.Limits.{tasks}
use Rattle.theory.specs.order.Recording.{Op, Event, act, lost, kind, loss_mark, event_of, is_access}
use Rattle.theory.specs.fillings.Completion.{names, Named, arrived, full, Filling}
use Rattle.theory.specs.acceptance.Table.{is_live, phase, Standing, standing, refusal, append_unless, extended}
use Rattle.theory.specs.acceptance.Control.{control_refusal, control_after}
use Rattle.theory.specs.history.History.{slots, last_after}
use Rattle.theory.specs.tables.Reckonings.{next_clocks, next_sets, clock_mask, set_mask, clock_masks, set_masks}
use Rattle.theory.specs.feeding.Meaning.{Meaning, meaning}
use Rattle.theory.specs.totals.Totals.{totalled}
use Rattle.theory.specs.feeding.Step.{next_number, answered_by, clock_answer, set_answer, clock_kind, step_of, step_unless_as, step_unless, set_step_of, set_step_unless, fresh_control, fresh_state, fresh_sets}
use Rattle.theory.specs.verdicts.Search.{partner}
use Rattle.theory.specs.skipping.Demands.{plain_step_of, by_plain_clocks}
use Rattle.theory.specs.feeding.Feeding.{Checker, replies, after_all, by_clocks, by_sets, accepted_answer, answer_unless, answer_to, answers_from}
use Rattle.theory.proofs.basics.Reflects.{Reflects, right, wrong, by_test, equal, is_true}
use Rattle.theory.proofs.acceptance.Rows.{ActAllowed, MarkAllowed, Allowed, allowed}
use Rattle.theory.proofs.order.Ops.{op_of_lem, no_mark, event_act, on_series, access_on, access_tests, other_tests}
use Rattle.theory.proofs.tables.NamedRows.{bit_named}
use Rattle.theory.proofs.tables.Exact.{ProperMask, nobody, somebody}
use Rattle.theory.proofs.fillings.Reach.{arrived_nothing}
use Rattle.theory.proofs.acceptance.ControlTable.{ExactControl, fresh_control_lem}
use Rattle.theory.proofs.acceptance.Noted.{control_act, control_mark}
use Rattle.theory.proofs.acceptance.Standings.{same_refusal}
use Rattle.theory.proofs.totals.Raised.{exact_totalled}
use Rattle.theory.proofs.tables.ClockTables.{ExactClocks, clocks_act, clocks_mark, fresh_clocks}
use Rattle.theory.proofs.tables.SetTables.{ExactSets, sets_act, sets_mark, fresh_sets_lem}
use Rattle.theory.proofs.history.Slots.{ExactHistory, history_act, history_mark, fresh_history}
use Rattle.theory.proofs.history.Numbers.{Ranged, ranged_act, ranged_mark, fresh_ranged}
use Rattle.theory.proofs.fillings.HasActed.{Restricts, arrived_restricts, full_restricts, Seen, seen_event, fresh_seen, starts_unseen}
use Rattle.theory.proofs.acceptance.Keeping.{act_keeps, mark_keeps}
use Rattle.theory.proofs.acceptance.Numbered.{refuses_by_row}
use Rattle.theory.proofs.skipping.Learnt.{Learnt, learnt_next, fresh_learnt}
use Rattle.theory.proofs.skipping.Clocks.{skip_same}
use Rattle.theory.proofs.tables.Finds.{clock_finds, set_finds, judged_found}

-- What an accepted record is

pub data Shape (es : List Event) : Record → Type 0 where
  an_act : (o : Op) (t n : ℕ) → ActAllowed (standing es) (kind o) t n → Shape es (record { kind = kind o; task = t; on = n })
  a_mark : (t n : ℕ) → MarkAllowed (standing es) n → Shape es (record { kind = loss_mark; task = t; on = n })

-- a mask that is not empty names a task
pub some_bit : (k n : ℕ) → ¬ (n ≡ 0) → n < 2 ^ k → (t : ℕ) × (t < k) × (n / 2 ^ t % 2 ≡ 1)
some_bit zero n h l = absurd (h (omega arith))
some_bit (suc k) n h l = decided (n % 2) refl (some_bit k (n / 2))
  where
    higher : (t : ℕ) → n / 2 / 2 ^ t ≡ n / 2 ^ suc t
    higher t = shr-shr n 1 t ∙ ap (λ (j : ℕ). n / 2 ^ j) (let e : 1 + t ≡ suc t = omega arith in e)

    decided : (d : ℕ) → n % 2 ≡ d → (¬ (n / 2 ≡ 0) → n / 2 < 2 ^ k → (t : ℕ) × (t < k) × (n / 2 / 2 ^ t % 2 ≡ 1)) → (t : ℕ) × (t < suc k) × (n / 2 ^ t % 2 ≡ 1)
    decided zero e below =
        let (t, m, q) = below (λ z. h (omega arith)) (omega (arith, pow-suc 2 k)) in
        (suc t, omega arith, rw (← higher t) q)
    decided (suc d) e below = (0, omega arith, omega arith)

-- whose lost records of an accepted mark a filling fills in
mark_filled : {w : Filling} → Restricts w → {s : Standing} {n : ℕ} → MarkAllowed s n → ProperMask (w n)
mark_filled {w} r {n = n} m = decided (equal (w n) 0)
  where
    decided : {b : Bool} → Reflects (w n ≡ 0) b → ProperMask (w n)
    decided (right e) = nobody e
    decided (wrong f) = let (t, l, d) = some_bit tasks (w n) f (r.bounded n m.fits) in somebody f (t, bit_named (w n) t l (subst T (sym (eq-eqb _ _ d)) tt))

mark_live : {s : Standing} {n : ℕ} → MarkAllowed s n → (t : ℕ) → Named n t → s.live t ≡ true
mark_live {n = n} m t k = m.live t (is_true (by_test (names n t)) k.named)

pub shape_of : (es : List Event) (r : Record) → refusal es r ≡ 0 → Shape es r
shape_of es r e = decided (equal r.kind loss_mark)
  where
    p : Allowed (standing es) r
    p = allowed (standing es) r e

    decided : {b : Bool} → Reflects (r.kind ≡ loss_mark) b → Shape es r
    decided (right q) = subst (Shape es) (λ i. record { kind = sym q i; task = r.task; on = r.on }) (a_mark r.task r.on (p.mark q))
    decided (wrong n) =
        let (o, q) = op_of_lem r.kind p.known n in
        subst (Shape es) (λ i. record { kind = sym q i; task = r.task; on = r.on })
        (an_act o r.task r.on (subst (λ (k : ℕ). ActAllowed (standing es) k r.task r.on) q (p.act n)))

-- What a state holds of a recording

pub record Base (es : List Event) (control last : List ℕ) : Type 0 where
  pub control_exact : ExactControl es control
  pub history : ExactHistory es last
  pub ranged : Ranged es
  pub seen : Seen es
  pub learnt : Learnt es

pub record BothClocks (es : List Event) (clocks fullclocks : List ℕ) : Type 0 where
  pub as_arrived : ExactClocks arrived es clocks
  pub in_full : ExactClocks full es fullclocks

pub record BothSets (es : List Event) (sets fullsets : List ℕ) : Type 0 where
  pub as_arrived : ExactSets arrived es sets
  pub in_full : ExactSets full es fullsets

next_number_lem : {es : List Event} {control : List ℕ} → ExactControl es control → next_number control ≡ suc (length es)
next_number_lem x = let e = x.count in omega arith

-- the accepted record joins the recording
abbrev Then : List Event → Record → List Event
Then es r = es ++ (event_of r ∷ [])

pub base_next : {es : List Event} {control last : List ℕ} {r : Record} → Base es control last → Shape es r →
    Base (Then es r) (control_after r.kind r.task r.on control) (last_after r.kind r.task r.on (next_number control) last)
base_next {es} {control} {last} b (an_act o t n a) =
    subst (λ (e : Event). Base (es ++ (e ∷ [])) (control_after (kind o) t n control) (last_after (kind o) t n (next_number control) last)) (sym (event_act o t n))
    (record {
      control_exact = control_act b.control_exact o a.fits;
      history = history_act o b.history a.fits.task_fits (on_series o a.fits) (next_number_lem b.control_exact);
      ranged = ranged_act o a.fits.task_fits (on_series o a.fits) b.ranged;
      seen = seen_event (act o t n) (λ u e. subst (λ (k : ℕ). is_live (phase es k) ≡ true) (sym e) a.live) b.seen;
      learnt = learnt_next (act o t n) (act_keeps es o t n a) b.learnt;
    })
base_next {es} {control} b (a_mark t n m) =
    record {
      control_exact = control_mark b.control_exact n t n;
      history = history_mark n t n (next_number control) b.history;
      ranged = ranged_mark n b.ranged;
      seen = seen_event (lost n) (mark_live m) b.seen;
      learnt = learnt_next (lost n) (mark_keeps es n m) b.learnt;
    }

-- the clocks of any filling
pub clocks_by : {w : Filling} → Restricts w → {es : List Event} {control last b : List ℕ} {r : Record} → Base es control last → ExactClocks w es b → Shape es r →
    ExactClocks w (Then es r) (next_clocks w r.kind r.task r.on (next_number control) b)
clocks_by w b x (an_act o t n a) =
    rw (event_act o t n, no_mark o)
    (clocks_act o x a.fits.task_fits (on_series o a.fits) (next_number_lem b.control_exact) (starts_unseen w b.seen a.starts_unseen))
clocks_by w b x (a_mark t n m) = clocks_mark n (w.asked n m.fits) (mark_filled w m) x

clocks_next : {es : List Event} {control last clocks fullclocks : List ℕ} {r : Record} → Base es control last → BothClocks es clocks fullclocks → Shape es r →
    BothClocks (Then es r) (next_clocks arrived r.kind r.task r.on (next_number control) clocks) (next_clocks full r.kind r.task r.on (next_number control) fullclocks)
clocks_next b x h = record { as_arrived = clocks_by arrived_restricts b x.as_arrived h; in_full = clocks_by full_restricts b x.in_full h }

-- the same if a take that is skipped moves them as a miss does
skipped_clocks : {w : Filling} {es : List Event} {control last b : List ℕ} {r : Record} → Base es control last → ExactClocks w es b → Shape es r →
    next_clocks w (clock_kind control r.kind r.task r.on) r.task r.on (next_number control) b ≡ next_clocks w r.kind r.task r.on (next_number control) b
skipped_clocks b x (an_act o t n a) = skip_same b.control_exact b.learnt x (kind o) t n a.fits
skipped_clocks b x (a_mark t n m) = refl

sets_next : {es : List Event} {sets fullsets : List ℕ} {r : Record} → Seen es → BothSets es sets fullsets → Shape es r →
    BothSets (Then es r) (next_sets arrived r.kind r.task r.on sets) (next_sets full r.kind r.task r.on fullsets)
sets_next s x (an_act o t n a) =
    rw (event_act o t n, no_mark o)
    (record {
      as_arrived = sets_act o x.as_arrived a.fits.task_fits (on_series o a.fits) (starts_unseen arrived_restricts s a.starts_unseen);
      in_full = sets_act o x.in_full a.fits.task_fits (on_series o a.fits) (starts_unseen full_restricts s a.starts_unseen);
    })
sets_next s x (a_mark t n m) =
    record { as_arrived = sets_mark n (arrived_restricts.asked n m.fits) (mark_filled arrived_restricts m) x.as_arrived; in_full = sets_mark n (full_restricts.asked n m.fits) (mark_filled full_restricts m) x.in_full }

-- What is answered

is_false : {b : Bool} → ¬ T b → b ≡ false
is_false {b} n = decided (by_test b)
  where
    decided : {c : Bool} → Reflects (T b) c → c ≡ false
    decided (right x) = absurd (n x)
    decided (wrong m) = refl

clock_answer_lem : {es : List Event} {control last clocks fullclocks : List ℕ} {r : Record} → Base es control last → BothClocks es clocks fullclocks → Shape es r →
    meaning (answered_by last r.kind r.on (next_number control) (clock_masks clocks fullclocks last r.kind r.task r.on)) ≡ accepted_answer es (event_of r)
clock_answer_lem {es} {control} {last} {clocks} {fullclocks} b x (an_act o t n a) = rw (event_act o t n) (decided (by_test (is_access o)))
  where
    number : next_number control ≡ suc (length es)
    number = next_number_lem b.control_exact

    decided : {c : Bool} → Reflects (T (is_access o)) c →
        meaning (answered_by last (kind o) n (next_number control) (clock_masks clocks fullclocks last (kind o) t n)) ≡ accepted_answer es (act o t n)
    decided (right c) =
        rw (access_tests o c, is_true (by_test (is_access o)) c, number)
        (judged_found last (kind o) n (suc (length es)) (clock_mask fullclocks last (kind o) t n) (clock_mask clocks last (kind o) t n) (act o t n) es
        (clock_finds {w = full} o t n b.history b.ranged c a.fits.task_fits (access_on o c (on_series o a.fits)) x.in_full)
        (clock_finds {w = arrived} o t n b.history b.ranged c a.fits.task_fits (access_on o c (on_series o a.fits)) x.as_arrived ∙ ap (λ (g : ℕ → List Event). partner g (act o t n) 1 es) arrived_nothing))
    decided (wrong l) = rw (other_tests o l, is_false {b = is_access o} l, number)
clock_answer_lem b x (a_mark t n m) = rw (next_number_lem b.control_exact)

set_answer_lem : {es : List Event} {control last sets fullsets : List ℕ} {r : Record} → Base es control last → BothSets es sets fullsets → Shape es r →
    meaning (answered_by last r.kind r.on (next_number control) (set_masks sets fullsets last r.kind r.task r.on)) ≡ accepted_answer es (event_of r)
set_answer_lem {es} {control} {last} {sets} {fullsets} b x (an_act o t n a) = rw (event_act o t n) (decided (by_test (is_access o)))
  where
    number : next_number control ≡ suc (length es)
    number = next_number_lem b.control_exact

    decided : {c : Bool} → Reflects (T (is_access o)) c →
        meaning (answered_by last (kind o) n (next_number control) (set_masks sets fullsets last (kind o) t n)) ≡ accepted_answer es (act o t n)
    decided (right c) =
        rw (access_tests o c, is_true (by_test (is_access o)) c, number)
        (judged_found last (kind o) n (suc (length es)) (set_mask fullsets last (kind o) t n) (set_mask sets last (kind o) t n) (act o t n) es
        (set_finds {w = full} o t n b.history b.ranged c a.fits.task_fits (access_on o c (on_series o a.fits)) x.in_full)
        (set_finds {w = arrived} o t n b.history b.ranged c a.fits.task_fits (access_on o c (on_series o a.fits)) x.as_arrived ∙ ap (λ (g : ℕ → List Event). partner g (act o t n) 1 es) arrived_nothing))
    decided (wrong l) = rw (other_tests o l, is_false {b = is_access o} l, number)
set_answer_lem b x (a_mark t n m) = rw (next_number_lem b.control_exact)

-- the same with another control table that is exact
pub base_control : {es : List Event} {control after last : List ℕ} → Base es control last → ExactControl es after → Base es after last
base_control b x = record { control_exact = x; history = b.history; ranged = b.ranged; seen = b.seen; learnt = b.learnt }

-- a total that is raised changes nothing that the state holds of the recording
base_totalled : {es : List Event} {control last : List ℕ} (m : Meaning) (v : ℕ) → Base es control last → Base es (totalled m v control) last
base_totalled m v b = base_control b (exact_totalled m v b.control_exact)

-- One record

pub record Represents (es : List Event) (s : State) : Type 0 where
  pub base : Base es s.control s.last
  pub clocks : BothClocks es s.clocks s.fullclocks

pub record RepresentsSets (es : List Event) (s : SetState) : Type 0 where
  pub base : Base es s.control s.last
  pub sets : BothSets es s.sets s.fullsets

-- One step as it is demanded of a checker: what represents the recording so far is answered as the recording says, and what it leaves
-- represents the recording with the record, if that was accepted
pub record Simulates {S : Type 0} (c : Checker S) (R : List Event → S → Type 0) : Type 0 where
  pub begins : R [] c.fresh
  pub steps : (es : List Event) (s : S) (r : Record) → R es s → (meaning (c.answer s r) ≡ answer_to es r) × R (append_unless es r (refusal es r)) (c.next s r)

pub fed_to : {S : Type 0} {c : Checker S} {R : List Event → S → Type 0} → Simulates c R → (es : List Event) (s : S) (rs : List Record) → R es s → map meaning (replies c s rs) ≡ answers_from es rs
fed_to x es s [] h = refl
fed_to {c = c} x es s (r ∷ rs) h =
    let (e, y) = x.steps es s r h in
    rw (e, fed_to x (append_unless es r (refusal es r)) (c.next s r) rs y)

pub after_all_lem : {S : Type 0} {c : Checker S} {R : List Event → S → Type 0} → Simulates c R → (es : List Event) (s : S) (rs : List Record) → R es s → R (extended es rs) (after_all c s rs)
after_all_lem x es s [] h = h
after_all_lem {c = c} x es s (r ∷ rs) h = after_all_lem x (append_unless es r (refusal es r)) (c.next s r) rs (x.steps es s r h).1

-- Clocks and sets are such

pub fresh_base : Base [] fresh_control (replicate slots 0)
fresh_base = record { control_exact = fresh_control_lem; history = fresh_history; ranged = fresh_ranged; seen = fresh_seen; learnt = fresh_learnt }

-- the clocks without skipping
pub plain_simulate : Simulates by_plain_clocks Represents
unfolding plain_step_of fresh_state
plain_simulate = record { begins = record { base = fresh_base; clocks = record { as_arrived = fresh_clocks; in_full = fresh_clocks } }; steps = steps }
  where
    steps : (es : List Event) (s : State) (r : Record) → Represents es s → (meaning (by_plain_clocks.answer s r) ≡ answer_to es r) × Represents (append_unless es r (refusal es r)) (by_plain_clocks.next s r)
    steps es s r x = rw (same_refusal x.base.control_exact r) (decided (refusal es r) refl)
      where
        decided : (n : ℕ) → refusal es r ≡ n → (meaning (step_unless_as n r.kind s r).answer ≡ answer_unless es r n) × Represents (append_unless es r n) (step_unless_as n r.kind s r).state
        decided zero e =
            let h = shape_of es r e in
            (clock_answer_lem x.base x.clocks h, record { base = base_totalled (meaning (clock_answer s r)) r.on (base_next x.base h); clocks = clocks_next x.base x.clocks h })
        decided (suc n) e = (refuses_by_row (standing es) r n e, x)

-- where the state is a recording's, a step that skips a take leaves what the step without skipping leaves
pub same_step : {es : List Event} {s : State} (r : Record) → Represents es s → step_of s r ≡ plain_step_of s r
unfolding step_of plain_step_of
same_step {es} {s} r x = decided (control_refusal s.control r) (sym (same_refusal x.base.control_exact r))
  where
    -- an accepted record, by the clocks after it
    left : List ℕ → List ℕ → Stepped
    left clocks fullclocks =
        record {
          state =
              record {
                control = totalled (meaning (clock_answer s r)) r.on (control_after r.kind r.task r.on s.control);
                last = last_after r.kind r.task r.on (next_number s.control) s.last;
                clocks = clocks;
                fullclocks = fullclocks;
              };
          answer = clock_answer s r;
        }

    decided : (n : ℕ) → refusal es r ≡ n → step_unless n s r ≡ step_unless_as n r.kind s r
    decided zero e =
        let h = shape_of es r e in
        ap₂ left (skipped_clocks x.base x.clocks.as_arrived h) (skipped_clocks x.base x.clocks.in_full h)
    decided (suc n) e = refl

-- so the clocks are such
pub clocks_simulate : Simulates by_clocks Represents
clocks_simulate =
    record {
      begins = plain_simulate.begins;
      steps = λ es s r x. subst (λ (y : Stepped). (meaning y.answer ≡ answer_to es r) × Represents (append_unless es r (refusal es r)) y.state) (sym (same_step r x)) (plain_simulate.steps es s r x);
    }

pub sets_simulate : Simulates by_sets RepresentsSets
unfolding set_step_of fresh_sets
sets_simulate = record { begins = record { base = fresh_base; sets = record { as_arrived = fresh_sets_lem; in_full = fresh_sets_lem } }; steps = steps }
  where
    steps : (es : List Event) (s : SetState) (r : Record) → RepresentsSets es s → (meaning (by_sets.answer s r) ≡ answer_to es r) × RepresentsSets (append_unless es r (refusal es r)) (by_sets.next s r)
    steps es s r x = rw (same_refusal x.base.control_exact r) (decided (refusal es r) refl)
      where
        decided : (n : ℕ) → refusal es r ≡ n → (meaning (set_step_unless n s r).answer ≡ answer_unless es r n) × RepresentsSets (append_unless es r n) (set_step_unless n s r).state
        decided zero e =
            let h = shape_of es r e in
            (set_answer_lem x.base x.sets h, record { base = base_totalled (meaning (set_answer s r)) r.on (base_next x.base h); sets = sets_next x.base.seen x.sets h })
        decided (suc n) e = (refuses_by_row (standing es) r n e, x)
