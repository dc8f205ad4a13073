-- What a step counts on once it has asked for admission: the record is refused, and the table is as it was, or it is accepted, and noted there.
-- Assumes nothing.
use mathlib.Core.Path.{◌≡◌, refl, sym, ◌∙◌, ap}
use mathlib.Core.Bool.{Bool}
use mathlib.Core.Logic.{◌≢◌}
use mathlib.Core.List.{List}
use lib.Dec.{leb}
use native.Mathlib.Omega.{arith}
use Prim.Native.Nat.{ℕ, zero, suc}
use Rattle.std.specs.Prelude.{Result, Ok, Err}
use Rattle.theory.specs.declared.record.Record.{Record}
use Rattle.theory.specs.declared.refusal.Refusal.{Refusal}
use Rattle.theory.specs.order.Recording.{series_size}
use Rattle.theory.specs.acceptance.Table.{first_row}
use Rattle.theory.specs.acceptance.Refusals.{row_number, numbered_row}
use Rattle.theory.specs.acceptance.Control.{control_standing, control_refusal, counted, control_after}
use Rattle.theory.specs.declared.masks.Masks.{Masks}
use Rattle.theory.specs.declared.answer.Answer.{Answer}
use Rattle.theory.specs.declared.answer.Answer.TheVariants.{Refused}
use Rattle.theory.specs.history.History.{last_after}
use Rattle.theory.specs.totals.Totals.{totalled}
use Rattle.theory.specs.feeding.Meaning.{meaning}
use Rattle.theory.specs.feeding.Step.{record_number, next_number, answered_by, clock_kind, step_of, set_step_of}
use Rattle.theory.specs.feeding.Lent.{state_of, set_state_of}
use Rattle.theory.proofs.acceptance.Accepted.{Accepts, accepts, refused, set_refused}
use Rattle.theory.proofs.acceptance.Numbered.{numbered_row_number, refused_by_row}
use Rattle.theory.proofs.acceptance.Plain.{common_rows, Plainly}
use Rattle.theory.proofs.feeding.Parts.{AcceptedBy}
use Rattle.acceptance.specs.declared.admission.Admitted.{Admitted}
use Rattle.acceptance.specs.Admission.{admitted_as, unless}

-- By any refusal n

-- no row has the number 0
pub row_from_1 : (row : Refusal) → row_number row ≢ 0
row_from_1 row z = let first : row_number row ≡ 1 = ap row_number (sym (numbered_row_number row) ∙ ap numbered_row z) in omega arith

-- an accepted record has its number and its kind
accepted_as : (n number moves : ℕ) {a : Admitted} → Ok a ≡ admitted_as n number moves → (n ≡ 0) × (a ≡ record { number = record_number number; moves = moves })
accepted_as zero number moves e = (refl, cc)
accepted_as (suc n) number moves e = cc

-- What `admit` says of a record: its answer, and what it leaves in the control table
abbrev pub Answers : List ℕ → Record → Result Admitted Refusal → Type 0
Answers control r x = x ≡ admitted_as (control_refusal control r) (next_number control) (clock_kind control r.kind r.task r.on)

abbrev pub Leaves : List ℕ → Record → List ℕ → Type 0
Leaves control r after = after ≡ unless (control_refusal control r) (control_after r.kind r.task r.on control) control

-- Of an accepted record, once it is admitted
pub record Admits (control : List ℕ) (r : Record) (a : Admitted) (after : List ℕ) : Type 0 where
  pub refusal : control_refusal control r ≡ 0
  pub accepted : Accepts control r
  pub number : a.number ≡ record_number (next_number control)
  pub moves : a.moves ≡ clock_kind control r.kind r.task r.on
  pub noted : after ≡ control_after r.kind r.task r.on control

pub admits : (control : List ℕ) (r : Record) {after : List ℕ} {x : Result Admitted Refusal} {a : Admitted} → Answers control r x → Leaves control r after → x ≡ Ok a →
    Admits control r a after
admits control r e t is =
    let (none, it) = accepted_as (control_refusal control r) (next_number control) (clock_kind control r.kind r.task r.on) (sym is ∙ e) in
    record {
      refusal = none;
      accepted = accepts control r _ refl none;
      number = ap (λ (a : Admitted). a.number) it;
      moves = ap (λ (a : Admitted). a.moves) it;
      noted = t ∙ ap (λ (n : ℕ). unless n (control_after r.kind r.task r.on control) control) none;
    }

-- and with that the accepted part of its step is what the definition says
pub accepted_by : {control last after : List ℕ} {r : Record} {a : Admitted} {m : Masks} {answer : Answer} {t l : List ℕ} → Admits control r a after →
    answer ≡ answered_by last r.kind r.on a.number.0 m → t ≡ totalled (meaning answer) r.on after → l ≡ last_after r.kind r.task r.on a.number.0 last →
    AcceptedBy control last r m answer t l
accepted_by x answered counted kept =
    record { answered = rw x.number at answered; counted = rw x.noted at counted; kept = rw x.number at kept }

-- what only the rows of every act can refuse, and is counted and no more, is admitted so too
pub plain_as : (control : List ℕ) (r : Record) {o : Bool} {after : List ℕ} {x : Result Admitted Refusal} → Plainly control r.kind r.task r.on → o ≡ leb (series_size r.kind) r.on →
    x ≡ admitted_as (first_row (common_rows (control_standing control) r.task o)) (next_number control) r.kind →
    after ≡ unless (first_row (common_rows (control_standing control) r.task o)) (counted control) control →
    Answers control r x × Leaves control r after
plain_as control r p q e t = (rw (p.refusal, p.unskipped, ← q) e, rw (p.refusal, p.noted, ← q) t)

-- and of a refused one
pub record Refuses (control : List ℕ) (r : Record) (row : Refusal) (after : List ℕ) : Type 0 where
  pub refusal : row_number row ≡ control_refusal control r
  pub same : after ≡ control

pub refuses : (control : List ℕ) (r : Record) {after : List ℕ} {x : Result Admitted Refusal} {row : Refusal} → Answers control r x → Leaves control r after → x ≡ Err row →
    Refuses control r row after
refuses control r {after = after} {row = row} e t is = of (control_refusal control r) refl (sym is ∙ e) t
  where
    of : (n : ℕ) → control_refusal control r ≡ n → Err row ≡ admitted_as n (next_number control) (clock_kind control r.kind r.task r.on) →
        after ≡ unless n (control_after r.kind r.task r.on control) control → Refuses control r row after
    of zero z q u = cc
    of (suc n) z q u =
        let it : row ≡ numbered_row (suc n) = cc in
        record { refusal = ap row_number it ∙ refused_by_row (control_standing control) r n z ∙ sym z; same = u }

-- so that a step which ends there is the definition's, by the clocks
pub refused_step : (control last clocks fullclocks : List ℕ) (r : Record) {after : List ℕ} {x : Result Admitted Refusal} {row : Refusal} → Answers control r x → Leaves control r after →
    x ≡ Err row → record { state = state_of after last clocks fullclocks; answer = Refused row } ≡ step_of (state_of control last clocks fullclocks) r
unfolding step_of
refused_step control last clocks fullclocks r {row = row} e t is =
    let x = refuses control r e t is in
    rw (x.same, ← x.refusal) (rw (numbered_row_number row) at (refused (row_number row) (state_of control last clocks fullclocks) r (row_from_1 row)))

-- and by the sets
pub set_refused_step : (control last sets fullsets : List ℕ) (r : Record) {after : List ℕ} {x : Result Admitted Refusal} {row : Refusal} → Answers control r x → Leaves control r after →
    x ≡ Err row → record { state = set_state_of after last sets fullsets; answer = Refused row } ≡ set_step_of (set_state_of control last sets fullsets) r
unfolding set_step_of
set_refused_step control last sets fullsets r {row = row} e t is =
    let x = refuses control r e t is in
    rw (x.same, ← x.refusal) (rw (numbered_row_number row) at (set_refused (row_number row) (set_state_of control last sets fullsets) r (row_from_1 row)))
