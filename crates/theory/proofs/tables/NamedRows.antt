-- Which tasks a mark names, and what it releases to, by the rows of the tables. Assumes nothing.
use mathlib.Core.Path.{◌≡◌, sym, subst}
use mathlib.Core.Bool.{Bool, true}
use Prim.Native.Nat.{ℕ, suc, ◌≤◌, ◌<◌}
use native.Mathlib.Omega.{arith}
use borrow.Author.Tests.{lt-ltb, le-ltb}
use lib.Dec.{T}
use Rattle.theory.specs.fillings.Completion.{bit, Named}
use Rattle.theory.specs.tables.Rows.{is_released, flag_row, semaphore_row}
use Rattle.theory.specs.order.Limits.{tasks}
use Rattle.theory.proofs.basics.Reflects.{by_test, both, at_most, passed, passes}
use Rattle.theory.proofs.order.Carry.{Node}
use Rattle.theory.proofs.fillings.Fullest.{FillerReleases}
use Rattle.theory.proofs.fillings.Reach.{released_due, released_semaphore, released_flag}
use Rattle.theory.proofs.tables.Nodes.{row, InRange, due_in, semaphore_in, flag_in}

pub bit_named : (mask t : ℕ) → t < tasks → T (bit mask t) → Named mask t
bit_named mask t h b = record { named = passes (both (at_most (suc t) tasks) (by_test (bit mask t))) (h, b) }

pub named_bit : {mask t : ℕ} → Named mask t → T (bit mask t)
named_bit {mask} {t} d = (passed (both (at_most (suc t) tasks) (by_test (bit mask t))) d.named).1

-- The tests, row by row

released_at_due : (mask t : ℕ) → t < tasks → is_released mask t ≡ bit mask t
released_at_due mask t h = rw (lt-ltb t tasks h)

pub released_at_object : (mask r : ℕ) → tasks ≤ r → is_released mask r ≡ true
released_at_object mask r h = rw (le-ltb r tasks h)

-- The tests tell what a mark tells, if it names a task

yes_if : {b : Bool} → b ≡ true → T b
yes_if e = subst T (sym e) tt

module _ {mask : ℕ} where
  pub released_test : {n : Node} → InRange n → FillerReleases mask n → T (is_released mask (row n))
  released_test (due_in {t = t} h) x = subst T (sym (released_at_due mask t h)) (named_bit (released_due.0 x))
  released_test (semaphore_in {s = s} h) x = yes_if (released_at_object mask (semaphore_row s) (omega arith))
  released_test (flag_in {f = f} h) x = yes_if (released_at_object mask (flag_row f) (omega arith))

  pub test_released : (t : ℕ) × Named mask t → {n : Node} → InRange n → T (is_released mask (row n)) → FillerReleases mask n
  test_released some (due_in {t = t} h) x = released_due.1 (bit_named mask t h (subst T (released_at_due mask t h) x))
  test_released some (semaphore_in h) x = released_semaphore.1 (h, some)
  test_released some (flag_in h) x = released_flag.1 (h, some)
