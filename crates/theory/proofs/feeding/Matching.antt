-- Clocks and sets match, since each says "path" exactly where Order has one. Of paths nothing else is used: the two claims are handed over.
-- Assumes nothing.
use mathlib.Core.Path.{◌≡◌, refl, sym, ◌∙◌, ap, ap₂}
use mathlib.Core.Bool.{Bool, true, false, not}
use mathlib.Core.List.{List, [], ◌∷◌, ◌++◌}
use Prim.Native.Nat.{ℕ, zero, suc, ◌<◌}
use native.Mathlib.Omega.{arith}
use lib.Dec.{T}
use Rattle.theory.specs.declared.record.Record.{Record}
use Rattle.theory.specs.declared.answer.Answer.{Answer}
use Rattle.theory.specs.declared.state.State.{State}
use Rattle.theory.specs.declared.state.SetState.{SetState}
use Rattle.theory.specs.order.Limits.{tasks}
use Rattle.theory.specs.order.Recording.{kind, accesses}
use Rattle.theory.specs.acceptance.Table.{refusal, recording}
use Rattle.theory.specs.acceptance.Control.{control_refusal, control_after}
use Rattle.theory.specs.history.History.{last_after}
use Rattle.theory.specs.tables.Reckonings.{masks_by, clock_masks, set_masks}
use Rattle.theory.specs.feeding.Meaning.{meaning}
use Rattle.theory.specs.totals.Totals.{totalled}
use Rattle.theory.specs.feeding.Step.{next_number, answered_by, masks_unless, apart_by_clocks, apart_by_sets, step_unless, step_of, set_step_unless, set_step_of, fresh_state, fresh_sets, clock_answer, set_answer}
use Rattle.theory.specs.feeding.Feeding.{Checker, replies, after_all, by_clocks, by_sets}
use Rattle.theory.specs.feeding.Paths.{clock_reckoning, set_reckoning, left_by, ExactPaths, ReckoningsMatch}
use Rattle.theory.proofs.order.Ops.{no_mark, op_of_kind}
use Rattle.theory.proofs.tables.Bits.{mask_ext}
use Rattle.theory.proofs.acceptance.Standings.{same_refusal}
use Rattle.theory.proofs.feeding.Simulation.{after_all_lem, clocks_simulate, sets_simulate}
use Rattle.theory.proofs.feeding.Paths.{clock_paths, set_paths}
use Rattle.theory.proofs.feeding.Asked.{access_alone, AccessShape, an_access, access_shape, clocks_tested, sets_tested}

-- Tests

-- two tests that fail alike are the same
same_failing : {a b : Bool} → (T (not a) → T (not b)) → (T (not b) → T (not a)) → a ≡ b
same_failing {a} {b} f g = decided a b f g
  where
    decided : (a b : Bool) → (T (not a) → T (not b)) → (T (not b) → T (not a)) → a ≡ b
    decided true true f g = refl
    decided true false f g = absurd (g tt)
    decided false true f g = absurd (f tt)
    decided false false f g = refl

-- The masks, from the two claims

module _ (by-clocks : ExactPaths clock_reckoning) (by-sets : ExactPaths set_reckoning) (rs : List Record) where
  -- an access asks each task in turn: of a kept access both say whether there is a path, and where none is kept both tests fail
  same_tests : {r : Record} → AccessShape (recording rs) r → refusal (recording rs) r ≡ 0 → (u : ℕ) → u < tasks →
      (clock_reckoning.apart (left_by clock_reckoning rs) r.kind r.task r.on u ≡ set_reckoning.apart (left_by set_reckoning rs) r.kind r.task r.on u)
      × (clock_reckoning.apart_in_full (left_by clock_reckoning rs) r.kind r.task r.on u ≡ set_reckoning.apart_in_full (left_by set_reckoning rs) r.kind r.task r.on u)
  same_tests (an_access o t n a hn) e u hu = decided (clock_reckoning.number (left_by clock_reckoning rs) (kind o) n u) refl (set_reckoning.number (left_by set_reckoning rs) (kind o) n u) refl
    where
      decided : (i : ℕ) → clock_reckoning.number (left_by clock_reckoning rs) (kind o) n u ≡ i → (j : ℕ) → set_reckoning.number (left_by set_reckoning rs) (kind o) n u ≡ j →
          (clock_reckoning.apart (left_by clock_reckoning rs) (kind o) t n u ≡ set_reckoning.apart (left_by set_reckoning rs) (kind o) t n u)
          × (clock_reckoning.apart_in_full (left_by clock_reckoning rs) (kind o) t n u ≡ set_reckoning.apart_in_full (left_by set_reckoning rs) (kind o) t n u)
      decided (suc i) q j q' =
          let k = ((by-clocks rs).keeps o n u i a hn hu).0 q in
          let x = (by-clocks rs).before (record { kind = kind o; task = t; on = n }) e (rw (no_mark o)) (rw (op_of_kind o) (access_alone o a)) o n u i k in
          let y = (by-sets rs).before (record { kind = kind o; task = t; on = n }) e (rw (no_mark o)) (rw (op_of_kind o) (access_alone o a)) o n u i k in (
            same_failing (λ z. y.as_arrived.1 (x.as_arrived.0 z)) (λ z. x.as_arrived.1 (y.as_arrived.0 z)),
            same_failing (λ z. y.in_fullest_lem.1 (x.in_fullest_lem.0 z)) (λ z. x.in_fullest_lem.1 (y.in_fullest_lem.0 z)),
          )
      decided zero q zero q' =
          let (x, y) = (by-clocks rs).keeps_none (kind o) t n u q in
          let (x', y') = (by-sets rs).keeps_none (kind o) t n u q' in
          (x ∙ sym x', y ∙ sym y')
      decided zero q (suc j) q' =
          let z = ((by-clocks rs).keeps o n u j a hn hu).1 (((by-sets rs).keeps o n u j a hn hu).0 q') in
          absurd (omega arith)

  -- of whatever record comes next
  same_apart : (r : Record) → apart_by_clocks (left_by clock_reckoning rs) r ≡ apart_by_sets (left_by set_reckoning rs) r
  same_apart r = decided (refusal (recording rs) r) refl (accesses r.kind) refl
    where
      clocks_refuse : control_refusal (left_by clock_reckoning rs).control r ≡ refusal (recording rs) r
      clocks_refuse = same_refusal (after_all_lem clocks_simulate [] fresh_state rs clocks_simulate.begins).base.control_exact r

      sets_refuse : control_refusal (left_by set_reckoning rs).control r ≡ refusal (recording rs) r
      sets_refuse = same_refusal (after_all_lem sets_simulate [] fresh_sets rs sets_simulate.begins).base.control_exact r

      decided : (n : ℕ) → refusal (recording rs) r ≡ n → (b : Bool) → accesses r.kind ≡ b → apart_by_clocks (left_by clock_reckoning rs) r ≡ apart_by_sets (left_by set_reckoning rs) r
      decided (suc n) e b q = rw (clocks_refuse, sets_refuse, e)
      decided zero e false q = rw (clocks_refuse, sets_refuse, e, q)
      decided zero e true q =
          let x = access_shape (recording rs) r e q in
          (clocks_tested rs r e q).told
          ∙ (ap₂ masks_by (mask_ext _ _ (λ u h. (same_tests x e u h).1)) (mask_ext _ _ (λ u h. (same_tests x e u h).0)) ∙ sym (sets_tested rs r e q).told)

-- The answers, from the masks: what else the two steps go by is the same table of phases and the same history

record Beside (s : State) (s' : SetState) : Type 0 where
  control : s.control ≡ s'.control
  last : s.last ≡ s'.last

-- what they answer and leave, where they say the same of the record's paths
beside_step : (s : State) (s' : SetState) (r : Record) → Beside s s' → apart_by_clocks s r ≡ apart_by_sets s' r →
    (by_clocks.answer s r ≡ by_sets.answer s' r) × Beside (by_clocks.next s r) (by_sets.next s' r)
unfolding step_of set_step_of
beside_step s s' r x m = rw (ap (λ (c : List ℕ). control_refusal c r) x.control) (decided (control_refusal s'.control r) (rw (ap (λ (c : List ℕ). control_refusal c r) x.control) at m))
  where
    decided : (n : ℕ) →
        masks_unless n (clock_masks s.clocks s.fullclocks s.last r.kind r.task r.on)
        ≡ masks_unless n (set_masks s'.sets s'.fullsets s'.last r.kind r.task r.on) →
        ((step_unless n s r).answer ≡ (set_step_unless n s' r).answer) × Beside (step_unless n s r).state (set_step_unless n s' r).state
    decided zero m =
        let a : clock_answer s r ≡ set_answer s' r = λ i. answered_by (x.last i) r.kind r.on (next_number (x.control i)) (m i) in (
          a,
          record {
            control = ap₂ (λ (y : Answer) (c : List ℕ). totalled (meaning y) r.on (control_after r.kind r.task r.on c)) a x.control;
            last = ap₂ (λ (c l : List ℕ). last_after r.kind r.task r.on (next_number c) l) x.control x.last;
          },
        )
    decided (suc n) m = (refl, x)

fresh_beside : Beside fresh_state fresh_sets
unfolding fresh_state fresh_sets
fresh_beside = record { control = refl; last = refl }

pub after_one_more : {S : Type 0} (c : Checker S) (s : S) (rs : List Record) (r : Record) → after_all c s (rs ++ (r ∷ [])) ≡ c.next (after_all c s rs) r
after_one_more c s [] r = refl
after_one_more c s (x ∷ rs) r = after_one_more c (c.next s x) rs r

module _ (by-clocks : ExactPaths clock_reckoning) (by-sets : ExactPaths set_reckoning) where
  same_answers : (before rest : List Record) → Beside (left_by clock_reckoning before) (left_by set_reckoning before) → replies by_clocks (left_by clock_reckoning before) rest ≡ replies by_sets (left_by set_reckoning before) rest
  same_answers before [] x = refl
  same_answers before (r ∷ rest) x =
      let (a, y) = beside_step (left_by clock_reckoning before) (left_by set_reckoning before) r x (same_apart by-clocks by-sets before r) in
      ap₂ (λ (a : Answer) (l : List Answer). a ∷ l) a
      (rw (after_one_more by_clocks fresh_state before r, after_one_more by_sets fresh_sets before r) at
      (same_answers (before ++ (r ∷ [])) rest (rw (after_one_more by_clocks fresh_state before r, after_one_more by_sets fresh_sets before r) y)))

  pub paths_match : ReckoningsMatch
  paths_match rs = record { answers = same_answers [] rs fresh_beside; paths = same_apart by-clocks by-sets rs }

pub reckonings_match : ReckoningsMatch
reckonings_match = paths_match clock_paths set_paths
