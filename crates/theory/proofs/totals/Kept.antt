-- The totals equal the counts over what feeding answered, after every list of records, by the clocks and by the sets. The statement is in
-- specs/totals/Counting.antt. Assumes nothing.
use mathlib.Core.Path.{◌≡◌, refl, ◌∙◌, ap, subst}
use mathlib.Core.Bool.{Bool, true, false, ◌&&◌}
use mathlib.Core.Logic.{◌↔◌}
use mathlib.Core.List.{List, [], ◌∷◌, ◌++◌, map}
use Prim.Native.Nat.{ℕ, zero, suc, ◌+◌, ◌≤◌, ◌<◌}
use native.Mathlib.Omega.{arith}
use borrow.Author.Tests.{lt-ltb, ltb-true}
use lib.Dec.{T, eqb}
use lib.ListN.{length, get_or, replicate, length-append, get_or-replicate}
use lib.Seq.{get_or-set_other}
use Rattle.theory.specs.declared.record.Record.{Record}
use Rattle.theory.specs.order.Limits.{variables, records}
use Rattle.theory.specs.order.Recording.{Event, act, lost, kind, event_of, is_access}
use Rattle.theory.specs.acceptance.Table.{standing, refusal, append_unless, extended, recording}
use Rattle.theory.specs.acceptance.Control.{control_after}
use Rattle.theory.specs.verdicts.Verdict.{Verdict, Race, Clear, Doubt}
use Rattle.theory.specs.verdicts.Search.{judge}
use Rattle.theory.specs.basics.Turns.{indicator}
use Rattle.theory.specs.feeding.Meaning.{Meaning, refuses, takes, judges, meaning}
use Rattle.theory.specs.feeding.Step.{fresh_control, fresh_state, fresh_sets, step_of, set_step_of}
use Rattle.theory.specs.feeding.Feeding.{Checker, replies, runs, after_all, by_clocks, by_sets, checker_refusal, answer_to, answer_unless, accepted_answer}
use Rattle.theory.specs.totals.Totals.{races_at, total_at, verdict_place, total, races, any_race, totalled, control_cells}
use Rattle.theory.specs.totals.Counting.{counts, given, access_count, is_race, SomeRace, race_now, race_later, KeepsTotals}
use Rattle.theory.proofs.basics.Reflects.{Reflects, right, wrong, by_test, is_true}
use Rattle.theory.proofs.order.Ops.{event_act}
use Rattle.theory.proofs.acceptance.Rows.{allowed}
use Rattle.theory.proofs.acceptance.ControlTable.{ExactControl}
use Rattle.theory.proofs.acceptance.Standings.{same_refusal}
use Rattle.theory.proofs.feeding.Simulation.{Shape, an_act, a_mark, shape_of, Simulates, Represents, RepresentsSets, clocks_simulate, sets_simulate}
use Rattle.theory.proofs.tables.Counters.{Room}
use Rattle.theory.proofs.totals.Moved.{place_below, Moved, bool_false, moved_by_lem}

-- Lists of records

-- no total is above the number of records so far, and there are not too many of these
record Below (es : List Event) (control : List ℕ) : Type 0 where
  few : length es ≤ records
  totals : (w : Verdict) (v : ℕ) → v < variables → total w v control ≤ length es
  of_races : races control ≤ length es

-- what feeding a record does to the totals, and to the bound
record Went (es' : List Event) (control after : List ℕ) (r : Record) (m : Meaning) : Type 0 where
  totals : (w : Verdict) (v : ℕ) → v < variables → total w v after ≡ total w v control + counts w v r m
  of_races : races after ≡ races control + indicator (is_race m)
  below : Below es' after

bit_at_most : (b : Bool) → indicator b ≤ 1
bit_at_most true = omega arith
bit_at_most false = omega arith

counts_at_most : (w : Verdict) (v : ℕ) (r : Record) (m : Meaning) → counts w v r m ≤ 1
counts_at_most w v r (refuses n) = omega arith
counts_at_most w v r (takes n) = omega arith
counts_at_most w v r (judges n x p) = bit_at_most (eqb (verdict_place x) (verdict_place w) && eqb r.on v)

went_on : {es : List Event} {control after : List ℕ} {r : Record} {m : Meaning} (e : Event) → length es < records → Below es control → Moved control after r m →
    Went (es ++ (e ∷ [])) control after r m
went_on {es} {control} {after} {r} {m} e h b y =
    record {
      totals = λ w v hv. y.totals w v hv (room (b.totals w v hv));
      of_races = y.of_races (room b.of_races);
      below =
          record {
            few = omega (arith, longer);
            totals = λ w v hv. let p = y.totals w v hv (room (b.totals w v hv)) in let q = b.totals w v hv in omega (arith, p, q, counts_at_most w v r m, longer);
            of_races = let p = y.of_races (room b.of_races) in let q = b.of_races in omega (arith, p, q, bit_at_most (is_race m), longer);
          };
    }
  where
    longer : length (es ++ (e ∷ [])) ≡ length es + 1
    longer = length-append es (e ∷ [])

    room : {n : ℕ} → n ≤ length es → Room n
    room l = omega arith

went_nowhere : {es : List Event} {control : List ℕ} (r : Record) (n : ℕ) → Below es control → Went es control control r (refuses n)
went_nowhere r n b = record { totals = λ w v hv. omega arith; of_races = omega arith; below = b }

-- how many of the answers are Races
abbrev pub race_count : List Meaning → ℕ
race_count [] = 0
race_count (m ∷ answers) = indicator (is_race m) + race_count answers

-- of a checker that keeps its totals so
pub record CountsSo {S : Type 0} (c : Checker S) (R : List Event → S → Type 0) : Type 0 where
  pub simulates : Simulates c R
  pub exact : (es : List Event) (s : S) → R es s → ExactControl es (c.control s)
  pub taken : (s : S) (r : Record) → checker_refusal c s r ≡ 0 → c.control (c.next s r) ≡ totalled (meaning (c.answer s r)) r.on (control_after r.kind r.task r.on (c.control s))
  pub refused : (s : S) (r : Record) (n : ℕ) → checker_refusal c s r ≡ suc n → c.next s r ≡ s

module _ {S : Type 0} {c : Checker S} {R : List Event → S → Type 0} (k : CountsSo c R) where
  went : (es : List Event) (s : S) (r : Record) → R es s → Below es (c.control s) →
      Went (append_unless es r (refusal es r)) (c.control s) (c.control (c.next s r)) r (meaning (c.answer s r))
  went es s r x b = decided (refusal es r) refl
    where
      answer : meaning (c.answer s r) ≡ answer_to es r
      answer = (k.simulates.steps es s r x).0

      row : checker_refusal c s r ≡ refusal es r
      row = same_refusal (k.exact es s x) r

      decided : (n : ℕ) → refusal es r ≡ n → Went (append_unless es r n) (c.control s) (c.control (c.next s r)) r (meaning (c.answer s r))
      decided zero e =
          let a : meaning (c.answer s r) ≡ accepted_answer es (event_of r) = answer ∙ ap (answer_unless es r) e in
          rw (k.taken s r (row ∙ e), a) (went_on (event_of r) (allowed (standing es) r e).room b (moved_by_lem (k.exact es s x) (shape_of es r e)))
      decided (suc n) e = rw (k.refused s r n (row ∙ e), answer ∙ ap (answer_unless es r) e) (went_nowhere r (suc n) b)

  -- after a list, from any such state
  totals_from_lem : (es : List Event) (s : S) (rs : List Record) → R es s → Below es (c.control s) → (w : Verdict) (v : ℕ) → v < variables →
      total w v (c.control (after_all c s rs)) ≡ total w v (c.control s) + given w v rs (map meaning (replies c s rs))
  totals_from_lem es s [] x b w v hv = omega arith
  totals_from_lem es s (r ∷ rs) x b w v hv =
      let y = went es s r x b in
      let p = totals_from_lem (append_unless es r (refusal es r)) (c.next s r) rs (k.simulates.steps es s r x).1 y.below w v hv in
      let q = y.totals w v hv in
      omega (arith, p, q)

  races_from : (es : List Event) (s : S) (rs : List Record) → R es s → Below es (c.control s) →
      races (c.control (after_all c s rs)) ≡ races (c.control s) + race_count (map meaning (replies c s rs))
  races_from es s [] x b = omega arith
  races_from es s (r ∷ rs) x b =
      let y = went es s r x b in
      let p = races_from (append_unless es r (refusal es r)) (c.next s r) rs (k.simulates.steps es s r x).1 y.below in
      let q = y.of_races in
      omega (arith, p, q)

-- The sum over the verdicts, counted from the recording

abbrev access_bit : ℕ → Event → ℕ
access_bit v (act o t n) = indicator (is_access o && eqb n v)
access_bit v (lost mask) = 0

accesses_snoc : (v : ℕ) (es : List Event) (e : Event) → access_count v (es ++ (e ∷ [])) ≡ access_count v es + access_bit v e
accesses_snoc v [] (act o t n) = omega arith
accesses_snoc v [] (lost mask) = refl
accesses_snoc v (act o t n ∷ es) e = let p = accesses_snoc v es e in omega (arith, p)
accesses_snoc v (lost mask ∷ es) e = accesses_snoc v es e

-- a verdict is one of three
abbrev three_counts : ℕ → Record → Meaning → ℕ
three_counts v r m = counts Clear v r m + counts Race v r m + counts Doubt v r m

one_of_three : (v : ℕ) (r : Record) (n : ℕ) (x : Verdict) (p : ℕ) → three_counts v r (judges n x p) ≡ indicator (eqb r.on v)
one_of_three v r n Clear p = omega arith
one_of_three v r n Race p = omega arith
one_of_three v r n Doubt p = omega arith

counted_as : (v : ℕ) {es : List Event} {r : Record} → Shape es r → three_counts v r (accepted_answer es (event_of r)) ≡ access_bit v (event_of r)
counted_as v {es} (an_act o t n a) = rw (event_act o t n) (decided (by_test (is_access o)))
  where
    r : Record
    r = record { kind = kind o; task = t; on = n }

    decided : {c : Bool} → Reflects (T (is_access o)) c → three_counts v r (accepted_answer es (act o t n)) ≡ access_bit v (act o t n)
    decided (right c) =
        rw (is_true (by_test (is_access o)) c)
        (one_of_three v r (suc (length es)) (judge es (act o t n)).verdict (judge es (act o t n)).partner)
    decided (wrong l) = rw (bool_false {b = is_access o} l)
counted_as v (a_mark t n m) = refl

abbrev three_given : ℕ → List Record → List Meaning → ℕ
three_given v rs answers = given Clear v rs answers + given Race v rs answers + given Doubt v rs answers

module _ {S : Type 0} {c : Checker S} {R : List Event → S → Type 0} (k : CountsSo c R) (v : ℕ) where
  sum_step : (es : List Event) (s : S) (r : Record) → R es s → access_count v (append_unless es r (refusal es r)) ≡ access_count v es + three_counts v r (meaning (c.answer s r))
  sum_step es s r x = decided (refusal es r) refl
    where
      answer : meaning (c.answer s r) ≡ answer_to es r
      answer = (k.simulates.steps es s r x).0

      decided : (n : ℕ) → refusal es r ≡ n → access_count v (append_unless es r n) ≡ access_count v es + three_counts v r (meaning (c.answer s r))
      decided zero e = rw (answer ∙ ap (answer_unless es r) e, counted_as v (shape_of es r e)) (accesses_snoc v es (event_of r))
      decided (suc n) e = rw (answer ∙ ap (answer_unless es r) e) (let z : access_count v es ≡ access_count v es + 0 = omega arith in z)

  sum_from : (es : List Event) (s : S) (rs : List Record) → R es s → access_count v (extended es rs) ≡ access_count v es + three_given v rs (map meaning (replies c s rs))
  sum_from es s [] x = omega arith
  sum_from es s (r ∷ rs) x =
      let p = sum_from (append_unless es r (refusal es r)) (c.next s r) rs (k.simulates.steps es s r x).1 in
      let q = sum_step es s r x in
      omega (arith, p, q)

-- A Race anywhere

pub some_race : (answers : List Meaning) → (0 < race_count answers) ↔ SomeRace answers
some_race [] = (λ h. absurd (omega arith), λ x. elim x [ ])
some_race (m ∷ answers) = (λ h. decided (some_race answers) h (by_test (is_race m)), there (some_race answers))
  where
    decided : {b : Bool} → (0 < race_count answers) ↔ SomeRace answers → 0 < indicator (is_race m) + race_count answers → Reflects (T (is_race m)) b → SomeRace (m ∷ answers)
    decided rest h (right y) = race_now y
    decided rest h (wrong n) =
        let e : is_race m ≡ false = bool_false n in
        let l : 0 < indicator false + race_count answers = subst (λ (b : Bool). 0 < indicator b + race_count answers) e h in
        race_later (rest.0 (omega arith))

    there : (0 < race_count answers) ↔ SomeRace answers → SomeRace (m ∷ answers) → 0 < indicator (is_race m) + race_count answers
    there rest (race_now y) = let e : is_race m ≡ true = is_true (by_test (is_race m)) y in rw e (omega arith)
    there rest (race_later y) = let l = rest.1 y in omega arith

-- From a fresh state

pub fresh_control_cell : (i : ℕ) → 0 < i → i < control_cells → get_or fresh_control i 0 ≡ 0
fresh_control_cell i h l = get_or-set_other (replicate control_cells 0) 0 i 1 0 (λ q. omega arith) ∙ get_or-replicate {A = ℕ} control_cells i 0 0 l

module _ {S : Type 0} {c : Checker S} {R : List Event → S → Type 0} (k : CountsSo c R) (fresh : c.control c.fresh ≡ fresh_control) where
  no_total : (w : Verdict) (v : ℕ) → v < variables → total w v (c.control c.fresh) ≡ 0
  no_total w v hv = rw fresh (fresh_control_cell (total_at w v) (omega arith) (omega (arith, place_below w)))

  no_race : races (c.control c.fresh) ≡ 0
  no_race = rw fresh (fresh_control_cell races_at (omega arith) (omega arith))

  below : Below [] (c.control c.fresh)
  below = record { few = omega arith; totals = λ w v hv. omega (arith, no_total w v hv); of_races = omega (arith, no_race) }

  keeps_totals : KeepsTotals c
  keeps_totals rs = record { each = each; sum = λ v hv. sum v hv; any_race_lem = any_race_lem }
    where
      answers : List Meaning
      answers = map meaning (runs c rs)

      after : List ℕ
      after = c.control (after_all c c.fresh rs)

      each : (w : Verdict) (v : ℕ) → v < variables → total w v after ≡ given w v rs answers
      each w v hv = let p = totals_from_lem k [] c.fresh rs k.simulates.begins below w v hv in omega (arith, p, no_total w v hv)

      sum : (v : ℕ) → v < variables → total Clear v after + total Race v after + total Doubt v after ≡ access_count v (recording rs)
      sum v hv = let p = sum_from k v [] c.fresh rs k.simulates.begins in omega (arith, p, each Clear v hv, each Race v hv, each Doubt v hv)

      counted_races : races after ≡ race_count answers
      counted_races = let p = races_from k [] c.fresh rs k.simulates.begins below in omega (arith, p, no_race)

      any_race_lem : (any_race after ≡ true) ↔ SomeRace answers
      any_race_lem = (
        λ e. (some_race answers).0 (let l : 0 < races after = ltb-true 0 (races after) e in omega (arith, l, counted_races)),
        λ x. lt-ltb 0 (races after) (let l = (some_race answers).1 x in omega (arith, l, counted_races)),
      )

pub clocks_keep : CountsSo by_clocks Represents
unfolding step_of
clocks_keep =
    record {
      simulates = clocks_simulate;
      exact = λ es s x. x.base.control_exact;
      taken = λ s r e. rw e;
      refused = λ s r n e. rw e;
    }

pub sets_keep : CountsSo by_sets RepresentsSets
unfolding set_step_of
sets_keep =
    record {
      simulates = sets_simulate;
      exact = λ es s x. x.base.control_exact;
      taken = λ s r e. rw e;
      refused = λ s r n e. rw e;
    }

pub clocks_keep_totals : KeepsTotals by_clocks
unfolding fresh_state
clocks_keep_totals = keeps_totals clocks_keep refl

pub sets_keep_totals : KeepsTotals by_sets
unfolding fresh_sets
sets_keep_totals = keeps_totals sets_keep refl
