-- What one accepted record does to the totals: they move by what is counted of it. Assumes nothing.
use mathlib.Core.Path.{◌≡◌, refl, sym, ◌∙◌, ap, subst}
use mathlib.Core.Bool.{Bool, false, ◌&&◌}
use mathlib.Core.Logic.{◌≢◌}
use mathlib.Core.List.{List}
use Prim.Native.Nat.{ℕ, suc, ◌+◌, ◌≤◌, ◌<◌}
use native.Mathlib.Omega.{arith}
use borrow.Author.Tests.{eqb-false}
use lib.Dec.{T, eqb}
use lib.ListN.{length, get_or}
use Rattle.theory.specs.declared.record.Record.{Record}
use Rattle.theory.specs.order.Limits.{variables}
use Rattle.theory.specs.order.Recording.{Event, act, kind, loss_mark, event_of, is_access}
use Rattle.theory.specs.acceptance.Table.{Proper}
use Rattle.theory.specs.acceptance.Control.{acceptance_cells, control_after}
use Rattle.theory.specs.verdicts.Verdict.{Verdict, Race, Clear, Doubt}
use Rattle.theory.specs.verdicts.Search.{judge}
use Rattle.theory.specs.basics.Turns.{indicator}
use Rattle.theory.specs.feeding.Meaning.{Meaning, takes, judges}
use Rattle.theory.specs.feeding.Feeding.{accepted_answer}
use Rattle.theory.specs.tables.Counters.{one_more, raise}
use Rattle.theory.specs.totals.Totals.{races_at, total_at, verdict_place, total, races, with_verdict, totalled, control_cells}
use Rattle.theory.specs.totals.Counting.{counts, is_race}
use Rattle.theory.proofs.basics.Reflects.{Reflects, right, wrong, equal, by_test, both, is_true}
use Rattle.theory.proofs.order.Ops.{no_mark, event_act, access_on, on_series}
use Rattle.theory.proofs.acceptance.Updated.{after_length, updated_elsewhere}
use Rattle.theory.proofs.acceptance.ControlTable.{ExactControl}
use Rattle.theory.proofs.tables.Counters.{Room, one_more_lem, raise_length, raise_same, raise_other}
use Rattle.theory.proofs.feeding.Simulation.{Shape, an_act, a_mark}

-- One cell

pub place_below : (w : Verdict) → verdict_place w < 3
place_below Clear = omega arith
place_below Race = omega arith
place_below Doubt = omega arith

module _ (control : List ℕ) (size : length control ≡ control_cells) where
  total_raised : (w x : Verdict) (v u : ℕ) → v < variables → u < variables → Room (total w v control) →
      total w v (raise (total_at x u) control) ≡ total w v control + indicator (eqb (verdict_place x) (verdict_place w) && eqb u v)
  total_raised w x v u hv hu room = decided (both (equal (verdict_place x) (verdict_place w)) (equal u v))
    where
      p : verdict_place w < 3
      p = place_below w

      decided : {b : Bool} → Reflects ((verdict_place x ≡ verdict_place w) × (u ≡ v)) b → total w v (raise (total_at x u) control) ≡ total w v control + indicator b
      decided (right (e, f)) = rw (e, f) (raise_same (total_at w v) control (omega (arith, p, size)) ∙ one_more_lem (total w v control) room)
      decided (wrong n) =
          let d : total_at w v ≢ total_at x u = λ q. n (omega (arith, q, p, place_below x), omega (arith, q, p, place_below x)) in
          raise_other (total_at x u) (total_at w v) control d ∙ (let z : total w v control ≡ total w v control + 0 = omega arith in z)

  races_raised : (x : Verdict) (u : ℕ) → races (raise (total_at x u) control) ≡ races control
  races_raised x u = raise_other (total_at x u) races_at control (λ q. omega arith)

-- One verdict

module _ (control : List ℕ) (size : length control ≡ control_cells) (x : Verdict) (u : ℕ) (hu : u < variables) where
  total_verdict : (w : Verdict) (v : ℕ) → v < variables → Room (total w v control) →
      total w v (with_verdict x u control) ≡ total w v control + indicator (eqb (verdict_place x) (verdict_place w) && eqb u v)
  total_verdict w v hv room = by x
    where
      by : (x : Verdict) → total w v (with_verdict x u control) ≡ total w v control + indicator (eqb (verdict_place x) (verdict_place w) && eqb u v)
      by Clear = total_raised control size w Clear v u hv hu room
      by Doubt = total_raised control size w Doubt v u hv hu room
      by Race = raise_other races_at (total_at w v) (raise (total_at Race u) control) (λ q. omega arith) ∙ total_raised control size w Race v u hv hu room

  races_verdict : Room (races control) → races (with_verdict x u control) ≡ races control + indicator (eqb (verdict_place x) (verdict_place Race))
  races_verdict room = by x
    where
      none : {n m : ℕ} → m ≡ n → m ≡ n + 0
      none e = omega arith

      by : (x : Verdict) → races (with_verdict x u control) ≡ races control + indicator (eqb (verdict_place x) (verdict_place Race))
      by Clear = none (races_raised control size Clear u)
      by Doubt = none (races_raised control size Doubt u)
      by Race =
          raise_same races_at (raise (total_at Race u) control) (omega (arith, raise_length (total_at Race u) control, size))
          ∙ (ap one_more (races_raised control size Race u) ∙ one_more_lem (races control) room)

-- One accepted record

-- what it was answered moves the totals by what is counted of it
pub record Moved (control after : List ℕ) (r : Record) (m : Meaning) : Type 0 where
  pub totals : (w : Verdict) (v : ℕ) → v < variables → Room (total w v control) → total w v after ≡ total w v control + counts w v r m
  pub of_races : Room (races control) → races after ≡ races control + indicator (is_race m)

-- a table in which only what acceptance looks at was noted
record Noted (control after : List ℕ) : Type 0 where
  size : length after ≡ control_cells
  same : (i : ℕ) → acceptance_cells ≤ i → get_or after i 0 ≡ get_or control i 0

-- an access, with its verdict
moved_access : {control after : List ℕ} → Noted control after → (r : Record) → r.on < variables → (n : ℕ) (x : Verdict) (p : ℕ) →
    Moved control (totalled (judges n x p) r.on after) r (judges n x p)
moved_access {control} {after} y r h n x p =
    record {
      totals = λ w v hv room. total_verdict after y.size x r.on h w v hv (subst Room (sym (kept w v)) room) ∙ ap (λ (k : ℕ). k + counts w v r (judges n x p)) (kept w v);
      of_races = λ room. races_verdict after y.size x r.on h (subst Room (sym racing) room) ∙ ap (λ (k : ℕ). k + indicator (is_race (judges n x p))) racing;
    }
  where
    kept : (w : Verdict) (v : ℕ) → total w v after ≡ total w v control
    kept w v = y.same (total_at w v) (omega arith)

    racing : races after ≡ races control
    racing = y.same races_at (omega arith)

-- any other record
moved_other : {control after : List ℕ} → Noted control after → (r : Record) (n : ℕ) → Moved control after r (takes n)
moved_other y r n =
    record {
      totals = λ w v hv room. let e = y.same (total_at w v) (omega arith) in omega arith;
      of_races = λ room. let e = y.same races_at (omega arith) in omega arith;
    }

-- After an accepted record, by what it is

pub bool_false : {b : Bool} → ¬ T b → b ≡ false
bool_false {b} n = decided (by_test b)
  where
    decided : {c : Bool} → Reflects (T b) c → c ≡ false
    decided (right x) = absurd (n x)
    decided (wrong m) = refl

noted_by : {es : List Event} {control : List ℕ} (k task on : ℕ) → ExactControl es control → Proper k task on → Noted control (control_after k task on control)
noted_by {control = control} k task on x p = record { size = after_length k task on control p ∙ x.size; same = updated_elsewhere k task on control p }

module _ {es : List Event} {control : List ℕ} (x : ExactControl es control) where
  pub moved_by_lem : {r : Record} → Shape es r → Moved control (totalled (accepted_answer es (event_of r)) r.on (control_after r.kind r.task r.on control)) r (accepted_answer es (event_of r))
  moved_by_lem (an_act o t n a) = rw (event_act o t n) (decided (by_test (is_access o)))
    where
      table : Noted control (control_after (kind o) t n control)
      table = noted_by (kind o) t n x (record { act_fits = λ _. a.fits; mark_names = λ e. absurd (eqb-false (kind o) loss_mark (no_mark o) e) })

      r : Record
      r = record { kind = kind o; task = t; on = n }

      decided : {c : Bool} → Reflects (T (is_access o)) c → Moved control (totalled (accepted_answer es (act o t n)) n (control_after (kind o) t n control)) r (accepted_answer es (act o t n))
      decided (right c) =
          rw (is_true (by_test (is_access o)) c)
          (moved_access table r (access_on o c (on_series o a.fits)) (suc (length es)) (judge es (act o t n)).verdict (judge es (act o t n)).partner)
      decided (wrong l) = rw (bool_false {b = is_access o} l) (moved_other table r (suc (length es)))
  moved_by_lem (a_mark t n m) =
      moved_other (noted_by loss_mark t n x (record { act_fits = λ d. absurd (d refl); mark_names = λ _. m.some })) (record { kind = loss_mark; task = t; on = n }) (suc (length es))
