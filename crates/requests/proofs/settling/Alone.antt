-- The tables that single tasks alone fill in tell which of them could settle an access. The statement is in specs/settling/Answer.antt.
-- Assumes nothing.
use mathlib.Core.Path.{◌≡◌, refl, sym, ◌∙◌, subst}
use mathlib.Core.Bool.{Bool, true, false, cond, ◌&&◌}
use mathlib.Core.List.{List, [], ◌∷◌, ◌++◌}
use mathlib.Core.Logic.{◌↔◌}
use Prim.Native.Nat.{ℕ, zero, suc, ◌^◌, ◌<◌}
use native.Mathlib.Omega.{arith}
use borrow.Author.Tests.{ne_eqb}
use lib.Dec.{T, eqb, lit<}
use lib.ListN.{length, get_or}
use Rattle.theory.specs.declared.record.Record.{Record}
use Rattle.theory.specs.declared.state.State.{State}
use Rattle.theory.specs.order.Limits.{tasks}
use Rattle.theory.specs.order.Recording.{Event, event_of, accesses}
use Rattle.theory.specs.fillings.Completion.{bit}
use Rattle.theory.specs.acceptance.Table.{refusal, append_unless, extended, recording}
use Rattle.theory.specs.acceptance.Control.{control_refusal}
use Rattle.theory.specs.tables.Reckonings.{clock_mask}
use Rattle.theory.specs.feeding.Step.{next_number, step_of, fresh_state}
use Rattle.theory.specs.feeding.Feeding.{after_all, by_clocks}
use Rattle.requests.specs.settling.Forcing.{CanForce, Forced}
use Rattle.requests.specs.settling.Fold.{home_of, fresh_homes, homes_after, alone_mask, homes_fed, homes_left, alone_after}
use Rattle.requests.specs.settling.Answer.{SettlesAlone}
use Rattle.theory.proofs.basics.Reflects.{by_test, is_true}
use Rattle.theory.proofs.acceptance.Standings.{same_refusal}
use Rattle.theory.proofs.tables.Bits.{mask_lt}
use Rattle.theory.proofs.tables.MaskBits.{mask_bit}
use Rattle.theory.proofs.feeding.Simulation.{shape_of, Base, Represents, clocks_simulate, after_all_lem}
use Rattle.requests.proofs.settling.Tables.{forced_next, HomesExact, fresh_homes_lem, homes_next}

-- Over a list

homes_fed_lem : {es : List Event} {s : State} {tables : List (List ℕ)} → Represents es s → HomesExact es tables → (r : Record) →
    HomesExact (append_unless es r (refusal es r)) (homes_fed s.control r tables)
homes_fed_lem {es} {s} {tables} x h r = rw (same_refusal x.base.control_exact r) (decided (refusal es r) refl)
  where
    decided : (n : ℕ) → refusal es r ≡ n → HomesExact (append_unless es r n) (cond (eqb n 0) (homes_after r.kind r.task r.on (next_number s.control) tables) tables)
    decided zero e = homes_next x.base h (shape_of es r e)
    decided (suc n) e = rw (ne_eqb (suc n) 0 (λ z. omega arith)) h

homes_left_lem : (rs : List Record) (es : List Event) (s : State) (tables : List (List ℕ)) → Represents es s → HomesExact es tables →
    HomesExact (extended es rs) (homes_left s tables rs)
homes_left_lem [] es s tables x h = h
homes_left_lem (r ∷ rs) es s tables x h =
    homes_left_lem rs (append_unless es r (refusal es r)) (step_of s r).state _ (clocks_simulate.steps es s r x).1 (homes_fed_lem x h r)

-- The record that comes next

module _ (rs : List Record) (r : Record) where
  abbrev state : State
  state = after_all by_clocks fresh_state rs

  abbrev tables : List (List ℕ)
  tables = homes_left fresh_state fresh_homes rs

  base : Base (recording rs) state.control state.last
  base = (after_all_lem clocks_simulate [] fresh_state rs clocks_simulate.begins).base

  exact : HomesExact (recording rs) tables
  exact = homes_left_lem rs [] fresh_state fresh_homes clocks_simulate.begins fresh_homes_lem

  -- what it is told, by its refusal and its kind
  abbrev told : ℕ → Bool → ℕ
  told n a = cond (eqb n 0 && a) (alone_mask tables state.last r.kind r.task r.on) 0

  alone_by : (n : ℕ) (a : Bool) → refusal (recording rs) r ≡ n → accesses r.kind ≡ a → alone_after rs r ≡ told n a
  alone_by n a e q = rw (same_refusal base.control_exact r, e, q)

  each_task : refusal (recording rs) r ≡ 0 → accesses r.kind ≡ true → (t : ℕ) → t < tasks →
      T (bit (alone_after rs r) t) ↔ CanForce (home_of t) (recording rs ++ (event_of r ∷ [])) (length (recording rs))
  each_task e a t ht = (λ y. f.yes.0 (is_true (by_test test) (subst T at_task y)), λ c. subst T (sym at_task) (subst T (sym (f.yes.1 c)) tt))
    where
      test : Bool
      test = eqb (clock_mask (get_or tables t []) state.last r.kind r.task r.on) 0

      at_task : bit (alone_after rs r) t ≡ test
      at_task = rw (alone_by 0 true e a) (mask_bit (λ u. eqb (clock_mask (get_or tables u []) state.last r.kind r.task r.on) 0) t ht)

      f : Forced (home_of t) (recording rs ++ (event_of r ∷ [])) (length (recording rs)) test
      f = forced_next (home_of t) (exact.exact t ht) base (shape_of (recording rs) r e) a

  refused : (n : ℕ) → refusal (recording rs) r ≡ suc n → alone_after rs r ≡ 0
  refused n e = alone_by (suc n) (accesses r.kind) e refl ∙ rw (ne_eqb (suc n) 0 (λ z. omega arith))

  no_access : accesses r.kind ≡ false → alone_after rs r ≡ 0
  no_access a = alone_by (refusal (recording rs) r) false refl a ∙ of (eqb (refusal (recording rs) r) 0)
    where
      of : (b : Bool) → cond (b && false) (alone_mask tables state.last r.kind r.task r.on) 0 ≡ 0
      of true = refl
      of false = refl

  no_others : alone_after rs r < 2 ^ tasks
  no_others = of (eqb (control_refusal state.control r) 0 && accesses r.kind)
    where
      of : (b : Bool) → cond b (alone_mask tables state.last r.kind r.task r.on) 0 < 2 ^ tasks
      of true = mask_lt _
      of false = lit< tt

pub settled_alone : SettlesAlone alone_after
settled_alone = record { each_task = each_task; no_others = no_others; refused = refused; no_access = no_access }
