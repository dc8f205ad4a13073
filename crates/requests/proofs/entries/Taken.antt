-- The table of accepted faults after a list of entries: the later entry holds, and acceptance does not look at it. Assumes nothing.
use mathlib.Core.Path.{◌≡◌, refl, sym, ◌∙◌, ap}
use mathlib.Core.Bool.{Bool, true, false, cond, ◌&&◌, ◌||◌}
use mathlib.Core.List.{List, [], ◌∷◌}
use Prim.Native.Nat.{ℕ, suc, ◌+◌, ◌≤◌, ◌<◌}
use native.Mathlib.Omega.{arith}
use borrow.Author.Tests.{lt-ltb}
use lib.Dec.{eqb}
use lib.ListN.{length, length-set}
use lib.Seq.{get_or-set_same, get_or-set_other}
use Rattle.theory.specs.order.Limits.{tasks, variables, entries}
use Rattle.theory.specs.order.Recording.{Event}
use Rattle.theory.specs.fillings.Completion.{bit}
use Rattle.theory.specs.tables.Reckonings.{word_bits}
use Rattle.theory.specs.totals.Totals.{entries_at, control_cells}
use Rattle.requests.specs.entries.Table.{paired_at, entry_count, paired_with, marked, pairs, entered, after_entry}
use Rattle.requests.specs.entries.Known.{Fault, Fits, AllFit, none_left, and_fits, concerns, paired_from, entered_all}
use Rattle.theory.proofs.basics.Reflects.{Reflects, right, wrong, equal}
use Rattle.theory.proofs.acceptance.ControlTable.{ExactControl, exact_elsewhere}
use Rattle.theory.proofs.tables.Words.{with_bit_lem, without_bit_lem}

marked_bit : (a : Bool) (k j x : ℕ) → k < word_bits → j < word_bits → bit (marked a k x) j ≡ cond (eqb j k) a (bit x j)
marked_bit true k j x h l = with_bit_lem k j x h l
marked_bit false k j x h l = without_bit_lem k j x h l

pairs_size : (a : Bool) (v t u : ℕ) (control : List ℕ) → length (pairs a v t u control) ≡ length control
pairs_size a v t u control = length-set control (paired_at v t) (marked a u (paired_with control v t))

-- One entry

module _ (f : Fault) (fits : Fits f) (control : List ℕ) (size : length control ≡ control_cells) where
  low_fits : f.low < tasks
  low_fits = omega (arith, fits.lower, fits.high_fits)

  abbrev first : List ℕ
  first = pairs f.accepted f.variable f.low f.high control

  abbrev second : List ℕ
  second = pairs f.accepted f.variable f.high f.low first

  abbrev next : List ℕ
  next = entered f.variable f.low f.high f.accepted control

  pub is_entered : entry_count control < entries → after_entry f.variable f.low f.high f.accepted control ≡ next
  is_entered room =
      rw (lt-ltb f.variable variables fits.variable_fits, lt-ltb f.low tasks low_fits, lt-ltb f.high tasks fits.high_fits, lt-ltb (entry_count control) entries room)

  second_size : length second ≡ control_cells
  second_size = pairs_size f.accepted f.variable f.high f.low first ∙ (pairs_size f.accepted f.variable f.low f.high control ∙ size)

  pub entered_size : length next ≡ control_cells
  unfolding entered
  entered_size = length-set second entries_at (entry_count control + 1) ∙ second_size

  pub entered_taken : entry_count next ≡ suc (entry_count control)
  unfolding entered
  entered_taken = get_or-set_same second entries_at (entry_count control + 1) 0 (omega (arith, second_size)) ∙ omega arith

  entered_exact : {es : List Event} → ExactControl es control → ExactControl es next
  unfolding entered
  entered_exact y = exact_elsewhere (exact_elsewhere (exact_elsewhere y (paired_at f.variable f.low) _ (omega arith)) (paired_at f.variable f.high) _ (omega arith)) entries_at _ (omega arith)

  -- the mask of a variable and a task after it
  module _ (v t u : ℕ) (hv : v < variables) (ht : t < tasks) (hu : u < tasks) where
    -- where the entry is for this cell, and where it is not
    own_cell : (k m : ℕ) (c : List ℕ) → length c ≡ control_cells → k < tasks → m < tasks → (f.variable ≡ v) × (k ≡ t) →
        bit (paired_with (pairs f.accepted f.variable k m c) v t) u ≡ cond (eqb u m) f.accepted (bit (paired_with c v t) u)
    own_cell k m c z hk hm (e, q) =
        rw (e, q)
        (ap (λ (x : ℕ). bit x u) (get_or-set_same c (paired_at v t) (marked f.accepted m (paired_with c v t)) 0 (omega arith)) ∙ marked_bit f.accepted m u (paired_with c v t) (omega arith) (omega arith))

    other_cell : (k m : ℕ) (c : List ℕ) → k < tasks → ¬ ((f.variable ≡ v) × (k ≡ t)) → bit (paired_with (pairs f.accepted f.variable k m c) v t) u ≡ bit (paired_with c v t) u
    other_cell k m c hk n =
        ap (λ (x : ℕ). bit x u)
        (get_or-set_other c (paired_at f.variable k) (paired_at v t) (marked f.accepted m (paired_with c f.variable k)) 0 (λ e. n (omega arith, omega arith)))

    counted : bit (paired_with next v t) u ≡ bit (paired_with second v t) u
    unfolding entered
    counted = ap (λ (x : ℕ). bit x u) (get_or-set_other second entries_at (paired_at v t) (entry_count control + 1) 0 (λ e. omega arith))

    first_size : length first ≡ control_cells
    first_size = pairs_size f.accepted f.variable f.low f.high control ∙ size

    entered_bit : bit (paired_with next v t) u ≡ cond (concerns f v t u) f.accepted (bit (paired_with control v t) u)
    entered_bit = counted ∙ decided (equal f.variable v) (equal f.low t) (equal f.high t)
      where
        lower : f.low < f.high
        lower = fits.lower

        decided : {a b c : Bool} → Reflects (f.variable ≡ v) a → Reflects (f.low ≡ t) b → Reflects (f.high ≡ t) c →
            bit (paired_with second v t) u ≡ cond (a && ((b && eqb f.high u) || (eqb f.low u && c))) f.accepted (bit (paired_with control v t) u)
        decided (wrong n) b c =
            other_cell f.high f.low first fits.high_fits (λ e. n e.0) ∙ other_cell f.low f.high control low_fits (λ e. n e.0)
        decided (right e) (right q) (right r) = absurd (omega arith)
        decided (right e) (right q) (wrong r) =
            other_cell f.high f.low first fits.high_fits (λ x. r x.1) ∙ (own_cell f.low f.high control size low_fits fits.high_fits (e, q) ∙ of (equal u f.high) (equal f.high u) (eqb f.low u))
          where
            of : {a b : Bool} → Reflects (u ≡ f.high) a → Reflects (f.high ≡ u) b → (c : Bool) → cond a f.accepted (bit (paired_with control v t) u) ≡ cond (b || (c && false)) f.accepted (bit (paired_with control v t) u)
            of (right x) (right y) c = refl
            of (right x) (wrong y) c = absurd (y (sym x))
            of (wrong x) (right y) c = absurd (x (sym y))
            of (wrong x) (wrong y) true = refl
            of (wrong x) (wrong y) false = refl
        decided (right e) (wrong q) (right r) =
            own_cell f.high f.low first first_size fits.high_fits low_fits (e, r)
            ∙ (ap (λ (b : Bool). cond (eqb u f.low) f.accepted b) (other_cell f.low f.high control low_fits (λ x. q x.1)) ∙ of (equal u f.low) (equal f.low u))
          where
            of : {a b : Bool} → Reflects (u ≡ f.low) a → Reflects (f.low ≡ u) b → cond a f.accepted (bit (paired_with control v t) u) ≡ cond (b && true) f.accepted (bit (paired_with control v t) u)
            of (right x) (right y) = refl
            of (right x) (wrong y) = absurd (y (sym x))
            of (wrong x) (right y) = absurd (x (sym y))
            of (wrong x) (wrong y) = refl
        decided (right e) (wrong q) (wrong r) =
            other_cell f.high f.low first fits.high_fits (λ x. r x.1) ∙ (other_cell f.low f.high control low_fits (λ x. q x.1) ∙ of (eqb f.low u))
          where
            of : (c : Bool) → bit (paired_with control v t) u ≡ cond (c && false) f.accepted (bit (paired_with control v t) u)
            of true = refl
            of false = refl

-- A list of entries for which there is room

-- the table after them
pub record TakenAll (fs : List Fault) (control after : List ℕ) : Type 0 where
  pub size : length after ≡ control_cells
  pub taken : entry_count after ≡ entry_count control + length fs
  pub exact : {es : List Event} → ExactControl es control → ExactControl es after
  pub pairing : (v t u : ℕ) → v < variables → t < tasks → u < tasks → bit (paired_with after v t) u ≡ paired_from (bit (paired_with control v t) u) fs v t u

pub taken_all : (fs : List Fault) → AllFit fs → (control : List ℕ) → length control ≡ control_cells → entry_count control + length fs ≤ entries → TakenAll fs control (entered_all fs control)
taken_all [] none_left control size room = record { size = size; taken = omega arith; exact = λ y. y; pairing = λ v t u hv ht hu. refl }
taken_all (f ∷ fs) (and_fits x xs) control size room =
    let taken : entry_count (entered f.variable f.low f.high f.accepted control) ≡ suc (entry_count control) = entered_taken f x control size in
    let z = taken_all fs xs (entered f.variable f.low f.high f.accepted control) (entered_size f x control size) (omega arith) in
    let q = z.taken in
    rw (is_entered f x control size (omega arith))
    (record {
      size = z.size;
      taken = omega arith;
      exact = λ y. z.exact (entered_exact f x control size y);
      pairing = λ v t u hv ht hu. z.pairing v t u hv ht hu ∙ ap (λ (b : Bool). paired_from b fs v t u) (entered_bit f x control size v t u hv ht hu);
    })
