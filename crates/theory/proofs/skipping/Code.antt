-- What the code of the step counts on: a take that is skipped moves the clocks as a miss does, which is a semaphore's act too. Assumes nothing.
use mathlib.Core.Path.{◌≡◌, refl}
use mathlib.Core.Bool.{Bool, true, false, cond, ◌&&◌}
use mathlib.Mathlib.Data.Bool.Basic.{and_elim_left}
use mathlib.Core.List.{List}
use Prim.Native.Nat.{ℕ}
use native.Mathlib.Omega.{arith}
use borrow.Author.Tests.{eqb-true}
use lib.Dec.{eqb}
use Rattle.theory.specs.order.Recording.{Op, kind}
use Rattle.theory.specs.acceptance.Table.{Fitting, Proper}
use Rattle.theory.specs.acceptance.Control.{under_in, gave_in, skips_in}
use Rattle.theory.specs.feeding.Step.{clock_kind}

pub moved_proper : (control : List ℕ) (k task on : ℕ) → Proper k task on → Proper (clock_kind control k task on) task on
moved_proper control k task on p = decided (skips_in control k task on) refl
  where
    as_miss : k ≡ kind Op.take → Fitting (kind Op.miss) task on
    as_miss e = let f = p.act_fits (λ q. omega arith) in record { task_fits = f.task_fits; on_fits = rw e at f.on_fits }

    decided : (b : Bool) → skips_in control k task on ≡ b → Proper (cond b (kind Op.miss) k) task on
    decided true e =
        record {
          act_fits = λ _. as_miss (eqb-true k (kind Op.take) (and_elim_left (eqb k (kind Op.take)) (under_in control && gave_in control on task) e));
          mark_names = λ q. absurd (omega arith);
        }
    decided false e = p
