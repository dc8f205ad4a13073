-- What a host is told of an access that comes next, by masks, is what the reckoning says of paths, task by task. Assumes nothing.
use mathlib.Core.Path.{◌≡◌, refl, sym, ◌∙◌, ap, subst}
use mathlib.Core.Bool.{Bool, true, false, not, ◌||◌, true≢false}
use mathlib.Core.Logic.{◌↔◌}
use mathlib.Core.List.{List, [], ◌∷◌, ◌++◌}
use Prim.Native.Nat.{ℕ, zero, suc, ◌<◌}
use native.Mathlib.Omega.{arith}
use lib.Dec.{T}
use lib.ListN.{length}
use Rattle.theory.specs.declared.record.Record.{Record}
use Rattle.theory.specs.declared.masks.Masks.{Masks}
use Rattle.theory.specs.order.Limits.{tasks, variables}
use Rattle.theory.specs.order.Recording.{Op, Event, Kind, of_op, of_mark, kind, op_of, event_of, accesses, is_access}
use Rattle.theory.specs.order.Path.{HappensBefore}
use Rattle.theory.specs.fillings.Completion.{bit}
use Rattle.theory.specs.acceptance.Table.{refusal, recording}
use Rattle.theory.specs.tables.Reckonings.{mask_of, masks_by}
use Rattle.theory.specs.feeding.Step.{fresh_state, fresh_sets}
use Rattle.theory.specs.feeding.Paths.{Reckoning, clock_reckoning, set_reckoning, left_by, Retained, FullestPath, RetainedApart, ExactBetween, acquiring, ExactPaths, ExactMasks, TellsPaths}
use Rattle.theory.proofs.basics.Reflects.{Reflects, right, wrong, by_test, is_true, fails, passed, passes}
use Rattle.theory.proofs.order.Ops.{each_op, no_mark, op_of_kind, other_tests, on_series, access_on}
use Rattle.theory.proofs.acceptance.Standings.{same_refusal}
use Rattle.theory.proofs.tables.MaskBits.{mask_bit}
use Rattle.theory.proofs.feeding.Simulation.{Shape, an_act, a_mark, shape_of, after_all_lem, clocks_simulate, sets_simulate}
use Rattle.theory.proofs.feeding.Paths.{clock_paths, set_paths}

-- Accesses

-- order comes to an access from its own task alone
pub access_alone : (o : Op) → T (is_access o) → acquiring o ≡ false
access_alone o a = decided (acquiring o) refl
  where
    test : Kind → Bool
    test (of_op o) = not (is_access o) || not (acquiring o)
    test of_mark = true

    decided : (b : Bool) → acquiring o ≡ b → acquiring o ≡ false
    decided false e = e
    decided true e = absurd (true≢false (sym (rw (e, is_true (by_test (is_access o)) a) at (each_op test refl refl o))))

pub access_op : (o : Op) → accesses (kind o) ≡ true → T (is_access o)
access_op o e = decided (by_test (is_access o))
  where
    decided : {b : Bool} → Reflects (T (is_access o)) b → T (is_access o)
    decided (right a) = a
    decided (wrong n) = absurd (true≢false (sym e ∙ other_tests o n))

-- an accepted access: its op, its numbers, and what the claims about paths ask of it
pub data AccessShape (es : List Event) : Record → Type 0 where
  an_access : (o : Op) (t n : ℕ) → T (is_access o) → n < variables → AccessShape es (record { kind = kind o; task = t; on = n })

pub access_shape : (es : List Event) (r : Record) → refusal es r ≡ 0 → accesses r.kind ≡ true → AccessShape es r
access_shape es r e q = of (shape_of es r e) q
  where
    of : {r : Record} → Shape es r → accesses r.kind ≡ true → AccessShape es r
    of (an_act o t n x) q = let a = access_op o q in an_access o t n a (access_on o a (on_series o x.fits))
    of (a_mark t n m) q = absurd (true≢false (sym q))

-- Tests

-- a test that fails where P holds, of the one place that is kept, and where none is
apart_where : {Here P : ℕ → Type 0} {test : Bool} (number : ℕ) → ((i : ℕ) → (number ≡ suc i) ↔ Here i) → (number ≡ 0 → test ≡ false) →
    ((i : ℕ) → Here i → T (not test) ↔ P i) → T test ↔ ((i : ℕ) × Here i × (¬ P i))
apart_where {test = test} zero here none exact = (λ y. absurd (subst T (none refl) y), λ z. let e = (here z.0).1 z.1 in absurd (omega arith))
apart_where {Here} {P} {test} (suc i) here none exact =
    (λ y. (i, (here i).0 refl, λ p. passed (fails (by_test test)) ((exact i ((here i).0 refl)).1 p) y), λ z. decided (by_test test) z)
  where
    decided : {b : Bool} → Reflects (T test) b → (j : ℕ) × Here j × (¬ P j) → T test
    decided (right x) z = x
    decided (wrong f) (j, h, n) = absurd (n ((exact j h).0 (passes (fails (by_test test)) f)))

-- The masks

-- those that a host is told of an accepted access are made of the tests
pub record AsTested {S : Type 0} (x : Reckoning S) (rs : List Record) (r : Record) : Type 0 where
  pub told : x.masks (left_by x rs) r
      ≡ masks_by (mask_of (x.apart_in_full (left_by x rs) r.kind r.task r.on)) (mask_of (x.apart (left_by x rs) r.kind r.task r.on))

module _ (rs : List Record) (r : Record) (e : refusal (recording rs) r ≡ 0) (q : accesses r.kind ≡ true) where
  pub clocks_tested : AsTested clock_reckoning rs r
  clocks_tested = record { told = rw (same_refusal (after_all_lem clocks_simulate [] fresh_state rs clocks_simulate.begins).base.control_exact r, e, q) }

  pub sets_tested : AsTested set_reckoning rs r
  sets_tested = record { told = rw (same_refusal (after_all_lem sets_simulate [] fresh_sets rs sets_simulate.begins).base.control_exact r, e, q) }

-- so they say of each task what the tests say
bit_test : (p : ℕ → Bool) {m : ℕ} {Q : Type 0} (u : ℕ) → u < tasks → m ≡ mask_of p → T (p u) ↔ Q → T (bit m u) ↔ Q
bit_test p u h e x = rw (e, mask_bit p u h) x

module _ {S : Type 0} {x : Reckoning S} (exact : ExactPaths x) (rs : List Record) where
  masks_exact : {r : Record} → AccessShape (recording rs) r → refusal (recording rs) r ≡ 0 → AsTested x rs r → ExactMasks (recording rs) r (x.masks (left_by x rs) r)
  masks_exact (an_access o t n a hn) e y =
      record {
        as_arrived = λ u hu. bit_test (x.apart (left_by x rs) (kind o) t n) u hu (ap (λ (m : Masks). m.arrived) y.told)
            (of_op HappensBefore u (apart_where (x.number (left_by x rs) (kind o) n u) (kept u hu) (λ z. ((exact rs).keeps_none (kind o) t n u z).0) (λ i k. (said u i k).as_arrived)));
        in_fullest_lem = λ u hu. bit_test (x.apart_in_full (left_by x rs) (kind o) t n) u hu (ap (λ (m : Masks). m.full) y.told)
            (of_op FullestPath u (apart_where (x.number (left_by x rs) (kind o) n u) (kept u hu) (λ z. ((exact rs).keeps_none (kind o) t n u z).1) (λ i k. (said u i k).in_fullest_lem)));
      }
    where
      kept : (u : ℕ) → u < tasks → (i : ℕ) → (x.number (left_by x rs) (kind o) n u ≡ suc i) ↔ Retained (recording rs) o n u i
      kept u hu i = (exact rs).keeps o n u i a hn hu

      said : (u i : ℕ) → Retained (recording rs) o n u i →
          ExactBetween (recording rs ++ (event_of (record { kind = kind o; task = t; on = n }) ∷ [])) i (length (recording rs)) (x.apart (left_by x rs) (kind o) t n u) (x.apart_in_full (left_by x rs) (kind o) t n u)
      said u i k = (exact rs).before (record { kind = kind o; task = t; on = n }) e (rw (no_mark o)) (rw (op_of_kind o) (access_alone o a)) o n u i k

      of_op : (Ordered : List Event → ℕ → ℕ → Type 0) (u : ℕ) {Q : Type 0} →
          Q ↔ RetainedApart Ordered (recording rs) (event_of (record { kind = kind o; task = t; on = n })) o n u →
          Q ↔ RetainedApart Ordered (recording rs) (event_of (record { kind = kind o; task = t; on = n })) (op_of (kind o)) n u
      of_op Ordered u {Q} z =
          subst (λ (p : Op). Q ↔ RetainedApart Ordered (recording rs) (event_of (record { kind = kind o; task = t; on = n })) p n u) (sym (op_of_kind o)) z

pub clocks_tell : TellsPaths clock_reckoning
clocks_tell rs r e q = masks_exact clock_paths rs (access_shape (recording rs) r e q) e (clocks_tested rs r e q)

pub sets_tell : TellsPaths set_reckoning
sets_tell rs r e q = masks_exact set_paths rs (access_shape (recording rs) r e q) e (sets_tested rs r e q)
