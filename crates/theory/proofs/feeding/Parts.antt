-- What the code computes for a step, and the step put together from it. Assumes nothing.
use mathlib.Core.Path.{◌≡◌, refl, sym, ◌∙◌, ap}
use mathlib.Core.Bool.{Bool, true, false, cond, not, ◌||◌}
use mathlib.Core.Logic.{◌≢◌}
use mathlib.Core.List.{List}
use Prim.Native.Nat.{ℕ, ◌%◌, ◌^◌, ◌<◌, max}
use native.Mathlib.Omega.{arith}
use borrow.Author.Tests.{eq-eqb, ne_eqb}
use lib.Dec.{eqb}
use Rattle.theory.specs.declared.record.Record.{Record}
use Rattle.theory.specs.declared.masks.Masks.{Masks}
use Rattle.theory.specs.declared.answer.Answer.{Answer}
use Rattle.theory.specs.declared.answer.Answer.TheVariants.{Clear, Race, Doubt}
use Rattle.theory.specs.declared.numbers.RecordNumber.{RecordNumber}
use Rattle.theory.specs.order.Limits.{tasks}
use Rattle.theory.specs.order.Recording.{loss_mark, accesses}
use Rattle.theory.specs.acceptance.Control.{control_refusal}
use Rattle.theory.specs.fillings.Completion.{Filling, fills, arrived, full}
use Rattle.theory.specs.history.History.{latest_number}
use Rattle.theory.specs.tables.Rows.{onward}
use Rattle.theory.specs.tables.Reckonings.{clock_own, clock_mask, next_clocks, set_masks, next_sets, masks_by, lowest_task}
use Rattle.theory.specs.feeding.Step.{record_number, next_number, answer_by_masks, next_answer, next_control, next_history, clock_answer, clock_kind, step_of, set_step_of}
use Rattle.theory.specs.feeding.Lent.{state_of, set_state_of}
use Rattle.theory.proofs.basics.Reflects.{Reflects, right, wrong, equal}
use Rattle.theory.proofs.tables.Bits.{Halved}
use Rattle.theory.proofs.tables.Rows.{same_max}
use Rattle.theory.proofs.tables.HandOver.{passes_on}
use Rattle.theory.proofs.tables.Onward.{onward_kept}

-- The answer by two words, each of them 0 only where the mask in its lower half is, and a partner of the mask that decides
module _ (last : List ℕ) (k v number full arrived : ℕ) (partner : RecordNumber) {m : ℕ} where
  pub judged_so : Halved full → Halved arrived → m ≡ cond (not (eqb full 0)) (full % 2 ^ tasks) (arrived % 2 ^ tasks) → (¬ (m ≡ 0) → partner.0 ≡ latest_number last k v (lowest_task m)) →
      cond (not (eqb full 0) || not (eqb arrived 0)) (cond (not (eqb full 0)) (Race (record_number number) partner) (Doubt (record_number number) partner)) (Clear (record_number number))
      ≡ answer_by_masks last k v number (full % 2 ^ tasks) (arrived % 2 ^ tasks)
  unfolding answer_by_masks
  judged_so f a = decided (equal full 0) (equal arrived 0)
    where
      decided : {x y : Bool} → Reflects (full ≡ 0) x → Reflects (arrived ≡ 0) y → m ≡ cond (not x) (full % 2 ^ tasks) (arrived % 2 ^ tasks) → (¬ (m ≡ 0) → partner.0 ≡ latest_number last k v (lowest_task m)) →
          cond (not x || not y) (cond (not x) (Race (record_number number) partner) (Doubt (record_number number) partner)) (Clear (record_number number))
          ≡ answer_by_masks last k v number (full % 2 ^ tasks) (arrived % 2 ^ tasks)
      decided (wrong d) y e p =
          let some : ¬ (full % 2 ^ tasks ≡ 0) = λ z. d (f.empty z) in
          let q : record_number (latest_number last k v (lowest_task (full % 2 ^ tasks))) ≡ partner = ap record_number (sym (rw e at (p (λ z. some (sym e ∙ z))))) in
          rw (ne_eqb (full % 2 ^ tasks) 0 some, q)
      decided (right z) (wrong d) e p =
          let none : full % 2 ^ tasks ≡ 0 = omega arith in
          let some : ¬ (arrived % 2 ^ tasks ≡ 0) = λ z. d (a.empty z) in
          let q : record_number (latest_number last k v (lowest_task (arrived % 2 ^ tasks))) ≡ partner = ap record_number (sym (rw e at (p (λ z. some (sym e ∙ z))))) in
          rw (eq-eqb (full % 2 ^ tasks) 0 none, ne_eqb (arrived % 2 ^ tasks) 0 some, q)
      decided (right z) (right w) e p =
          let none : full % 2 ^ tasks ≡ 0 = omega arith in
          let neither : arrived % 2 ^ tasks ≡ 0 = omega arith in
          rw (eq-eqb (full % 2 ^ tasks) 0 none, eq-eqb (arrived % 2 ^ tasks) 0 neither)

-- only an access is answered by its masks
asked : (control last : List ℕ) (r : Record) {m n : Masks} → (accesses r.kind ≡ true → m ≡ n) → next_answer control last r m ≡ next_answer control last r n
asked control last r {m} {n} e = of (accesses r.kind) refl
  where
    of : (b : Bool) → accesses r.kind ≡ b → next_answer control last r m ≡ next_answer control last r n
    of true h = ap (next_answer control last r) (e h)
    of false h = rw h

-- What the accepted part of a step answers and leaves, by some masks
pub record AcceptedBy (control last : List ℕ) (r : Record) (m : Masks) (a : Answer) (t l : List ℕ) : Type 0 where
  pub answered : a ≡ next_answer control last r m
  pub counted : t ≡ next_control control r a
  pub kept : l ≡ next_history control last r

module _ (control last : List ℕ) (r : Record) (z : control_refusal control r ≡ 0) {m : Masks} {a : Answer} {t l x y : List ℕ} (p : AcceptedBy control last r m a t l) where
  -- A step by the clocks is that part and the clocks as they are moved
  pub stepped : (clocks fullclocks : List ℕ) → (accesses r.kind ≡ true → m ≡ masks_by (clock_mask fullclocks last r.kind r.task r.on) (clock_mask clocks last r.kind r.task r.on)) →
      x ≡ next_clocks arrived (clock_kind control r.kind r.task r.on) r.task r.on (next_number control) clocks →
      y ≡ next_clocks full (clock_kind control r.kind r.task r.on) r.task r.on (next_number control) fullclocks →
      record { state = state_of t l x y; answer = a } ≡ step_of (state_of control last clocks fullclocks) r
  unfolding step_of
  stepped clocks fullclocks e c f =
      let q : a ≡ clock_answer (state_of control last clocks fullclocks) r = p.answered ∙ asked control last r (λ h. rw h (e h)) in
      rw (z, ← q, ← p.counted, ← p.kept, ← c, ← f)

  -- and one by the sets that part and the sets
  pub set_stepped : (sets fullsets : List ℕ) → m ≡ set_masks sets fullsets last r.kind r.task r.on →
      x ≡ next_sets arrived r.kind r.task r.on sets → y ≡ next_sets full r.kind r.task r.on fullsets →
      record { state = set_state_of t l x y; answer = a } ≡ set_step_of (set_state_of control last sets fullsets) r
  unfolding set_step_of
  set_stepped sets fullsets e c f =
      let q = p.answered ∙ ap (next_answer control last r) e in
      rw (z, ← q, ← p.counted, ← p.kept, ← c, ← f)

-- The clocks after an act that passes nothing on, in any filling: its own cells are all that changes
pub kept_moved : (w : Filling) (k task on number : ℕ) (b : List ℕ) {x : List ℕ} → k ≢ loss_mark → passes_on k ≡ false → task < tasks → x ≡ clock_own task number b → x ≡ next_clocks w k task on number b
kept_moved w k task on number b n h i e = rw (ne_eqb k loss_mark n) (onward_kept same_max tasks (fills w) k task on (clock_own task number b) e h i)

-- and after any act
pub act_moved : (w : Filling) (k task on number : ℕ) (b : List ℕ) {x : List ℕ} → k ≢ loss_mark → x ≡ onward max tasks (fills w) k task on (clock_own task number b) → x ≡ next_clocks w k task on number b
act_moved w k task on number b n e = rw (ne_eqb k loss_mark n) e
