-- Feeding a record leaves the faults that a planner has accepted as they were, in any state; where there are none, no Race is excused. Assumes nothing.
use mathlib.Core.Path.{◌≡◌, refl, sym, ◌∙◌, ap}
use mathlib.Core.Bool.{Bool, true, false, true≢false}
use mathlib.Core.List.{List}
use Prim.Native.Nat.{ℕ, zero, suc, ◌≤◌, ◌<◌}
use native.Mathlib.Omega.{arith}
use lib.ListN.{get_or}
use Rattle.theory.specs.declared.record.Record.{Record}
use Rattle.theory.specs.declared.state.State.{State}
use Rattle.theory.specs.order.Limits.{variables}
use Rattle.theory.specs.order.Recording.{loss_mark, accesses}
use Rattle.theory.specs.acceptance.Table.{Proper}
use Rattle.theory.specs.acceptance.Control.{control_refusal, control_after}
use Rattle.theory.specs.verdicts.Verdict.{Verdict, Race, Clear, Doubt}
use Rattle.theory.specs.feeding.Meaning.{Meaning, refuses, takes, judges, meaning}
use Rattle.theory.specs.feeding.Step.{clock_answer, step_unless, step_of}
use Rattle.theory.specs.totals.Totals.{races_at, total_at, entries_at, with_verdict, totalled}
use Rattle.requests.specs.entries.Table.{entry_count, paired_with, excuse_of, tables_excuse, excuse}
use Rattle.theory.proofs.acceptance.Accepted.{accepts}
use Rattle.theory.proofs.acceptance.Updated.{updated_elsewhere}
use Rattle.theory.proofs.history.Accesses.{of_access}
use Rattle.theory.proofs.tables.Counters.{raise_other}

-- a verdict on a variable raises totals alone
verdict_kept : (w : Verdict) (v i : ℕ) (control : List ℕ) → v < variables → entries_at ≤ i → get_or (with_verdict w v control) i 0 ≡ get_or control i 0
verdict_kept Clear v i control hv h = raise_other (total_at Clear v) i control (λ q. omega arith)
verdict_kept Race v i control hv h = raise_other races_at i _ (λ q. omega arith) ∙ raise_other (total_at Race v) i control (λ q. omega arith)
verdict_kept Doubt v i control hv h = raise_other (total_at Doubt v) i control (λ q. omega arith)

totals_kept : (m : Meaning) (v i : ℕ) (control : List ℕ) → v < variables → entries_at ≤ i → get_or (totalled m v control) i 0 ≡ get_or control i 0
totals_kept (refuses n) v i control hv h = refl
totals_kept (takes n) v i control hv h = refl
totals_kept (judges n w p) v i control hv h = verdict_kept w v i control hv h

-- every cell from there on is as it was
pub cell_kept : (s : State) (r : Record) (i : ℕ) → entries_at ≤ i → get_or (step_of s r).state.control i 0 ≡ get_or s.control i 0
unfolding step_of
cell_kept s r i h = decided (control_refusal s.control r) refl
  where
    noted : Proper r.kind r.task r.on → get_or (control_after r.kind r.task r.on s.control) i 0 ≡ get_or s.control i 0
    noted p = updated_elsewhere r.kind r.task r.on s.control p i (omega arith)

    -- only an access is counted
    counted : Proper r.kind r.task r.on → (b : Bool) → accesses r.kind ≡ b →
        get_or (totalled (meaning (clock_answer s r)) r.on (control_after r.kind r.task r.on s.control)) i 0 ≡ get_or (control_after r.kind r.task r.on s.control) i 0
    counted p true e =
        let no_mark : ¬ (r.kind ≡ loss_mark) = λ q. true≢false (sym e ∙ ap accesses q) in
        totals_kept (meaning (clock_answer s r)) r.on i _ (of_access (p.act_fits no_mark) e).variable_fits h
    counted p false e = rw e

    decided : (n : ℕ) → control_refusal s.control r ≡ n → get_or (step_unless n s r).state.control i 0 ≡ get_or s.control i 0
    decided zero e = let a = accepts s.control r zero (sym e) refl in counted a.proper (accesses r.kind) refl ∙ noted a.proper
    decided (suc n) e = refl

-- so the entries are
pub taken_kept : (s : State) (r : Record) → entry_count (step_of s r).state.control ≡ entry_count s.control
taken_kept s r = cell_kept s r entries_at (omega arith)

pub paired_kept : (s : State) (r : Record) (v t : ℕ) → paired_with (step_of s r).state.control v t ≡ paired_with s.control v t
paired_kept s r v t = cell_kept s r _ (omega arith)

-- where no entry was taken in a Race is what it is by document 01
pub no_excuse : (s : State) (r : Record) (w : ℕ) → entry_count s.control ≡ 0 → excuse s r w ≡ excuse_of false w
unfolding tables_excuse
no_excuse s r w e = rw e
