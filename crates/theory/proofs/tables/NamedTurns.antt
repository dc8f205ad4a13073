-- A loop over the tasks that a mask names alone, lowest first: it does what the turns of all tasks do, where those of the others change
-- nothing. Assumes nothing.
use mathlib.Core.Path.{◌≡◌, refl, sym, ◌∙◌, ap, subst}
use mathlib.Core.Bool.{Bool, true, false}
use mathlib.Core.List.{List}
use Prim.Native.Nat.{ℕ, zero, suc, ◌+◌, ◌*◌, ◌-◌, ◌/◌, ◌%◌, ◌^◌, ◌≤◌, ◌<◌}
use native.Mathlib.Omega.{arith}
use lib.Count.{count_trailing_zeros, under}
use lib.Bits.{bit_and, and_step, and_self}
use lib.ListN.{get_or, set, replicate}
use lib.Seq.{set-get_or}
use lib.Pow.{shr-shr, shr_le, field, mod-mod-pow}
use borrow.Author.Tests.{lt-ltb}
use Rattle.theory.specs.fillings.Completion.{bit}
use Rattle.theory.specs.order.Limits.{tasks}
use Rattle.theory.specs.basics.Turns.{turns}
use Rattle.theory.specs.tables.Reckonings.{lowest_task}
use Rattle.theory.specs.tables.Rows.{hub, cell, join_row, row_or_hub, is_released, row_of, put_row}
use Rattle.theory.proofs.basics.Reflects.{Reflects, right, wrong, at_most}
use Rattle.theory.proofs.basics.Turns.{Turned, no_turn_yet, one_turn}
use Rattle.theory.proofs.tables.Rows.{Same, join_self, row_cell, put_other}

-- Digits

abbrev digit : ℕ → ℕ → ℕ
digit n k = n / 2 ^ k % 2

digit_half : (n k : ℕ) → digit n (suc k) ≡ digit (n / 2) k
digit_half n k = let e : suc k ≡ 1 + k = omega arith in rw (e, ← shr-shr n 1 k) refl

digit_first : (n : ℕ) → digit n 0 ≡ n % 2
digit_first n = omega arith

no_digit : (k : ℕ) → digit 0 k ≡ 0
no_digit k = omega (arith, shr_le 0 k)

-- the digits of a number's lower part
low_digit : (w n k : ℕ) → k < w → digit (n % 2 ^ w) k ≡ digit n k
low_digit w n k h =
    let e : w - k - 1 + 1 + k ≡ w = omega arith in
    subst (λ (v : ℕ). digit (n % 2 ^ v) k ≡ digit n k) e (ap (λ (x : ℕ). x % 2) (field n (w - k - 1 + 1) k) ∙ mod-mod-pow (n / 2 ^ k) (w - k - 1) 1)

-- The lowest digit that is set

record Lowest (n z : ℕ) : Type 0 where
  here : digit n z ≡ 1
  below : (k : ℕ) → k < z → digit n k ≡ 0

lowest_next : {n z : ℕ} → n % 2 ≡ 0 → Lowest (n / 2) z → Lowest n (suc z)
lowest_next {n} {z} e l = record { here = digit_half n z ∙ l.here; below = below }
  where
    below : (k : ℕ) → k < suc z → digit n k ≡ 0
    below zero h = digit_first n ∙ e
    below (suc k) h = digit_half n k ∙ l.below k (omega arith)

trailing_lowest : (w n : ℕ) → count_trailing_zeros w n < w → Lowest n (count_trailing_zeros w n)
unfolding count_trailing_zeros
trailing_lowest zero n h = absurd (omega arith)
trailing_lowest (suc w) n h = decided (n % 2) refl h (trailing_lowest w (n / 2))
  where
    decided : (d : ℕ) → n % 2 ≡ d → under d (count_trailing_zeros w (n / 2)) < suc w → (count_trailing_zeros w (n / 2) < w → Lowest (n / 2) (count_trailing_zeros w (n / 2))) →
        Lowest n (under d (count_trailing_zeros w (n / 2)))
    decided zero e l rest = lowest_next e (rest (omega arith))
    decided (suc d) e l rest = record { here = digit_first n ∙ omega arith; below = λ k i. absurd (omega arith) }

-- r is n without it
record Cleared (n z r : ℕ) : Type 0 where
  above : (k : ℕ) → z < k → digit r k ≡ digit n k
  upto : (k : ℕ) → k ≤ z → digit r k ≡ 0

less_one_odd : (n : ℕ) → n % 2 ≡ 1 → bit_and n (n - 1) ≡ n / 2 * 2
less_one_odd n e =
    let half : (n - 1) / 2 ≡ n / 2 = omega arith in
    let even : (n - 1) % 2 ≡ 0 = omega arith in
    and_step n (n - 1) ∙ rw (half, even, e, and_self (n / 2)) (omega arith)

less_one_even : (n : ℕ) → n % 2 ≡ 0 → bit_and n (n - 1) ≡ bit_and (n / 2) (n / 2 - 1) * 2
less_one_even n e =
    let half : (n - 1) / 2 ≡ n / 2 - 1 = omega arith in
    and_step n (n - 1) ∙ rw (half, e) (omega arith)

cleared_first : {n r : ℕ} → r ≡ n / 2 * 2 → Cleared n 0 r
cleared_first {n} {r} e = record { above = above; upto = λ k h. let z : k ≡ 0 = omega arith in rw z (digit_first r ∙ omega arith) }
  where
    above : (k : ℕ) → 0 < k → digit r k ≡ digit n k
    above zero h = absurd (omega arith)
    above (suc k) h = let half : r / 2 ≡ n / 2 = omega arith in digit_half r k ∙ rw half (sym (digit_half n k))

cleared_next : {n z r q : ℕ} → r ≡ q * 2 → Cleared (n / 2) z q → Cleared n (suc z) r
cleared_next {n} {z} {r} {q} e c = record { above = above; upto = upto }
  where
    half : r / 2 ≡ q
    half = omega arith

    above : (k : ℕ) → suc z < k → digit r k ≡ digit n k
    above zero h = absurd (omega arith)
    above (suc k) h = digit_half r k ∙ rw half (c.above k (omega arith) ∙ sym (digit_half n k))

    upto : (k : ℕ) → k ≤ suc z → digit r k ≡ 0
    upto zero h = digit_first r ∙ omega arith
    upto (suc k) h = digit_half r k ∙ rw half (c.upto k (omega arith))

cleared : (z n : ℕ) → Lowest n z → Cleared n z (bit_and n (n - 1))
cleared zero n l = cleared_first (less_one_odd n (sym (digit_first n) ∙ l.here))
cleared (suc z) n l =
    cleared_next (less_one_even n (sym (digit_first n) ∙ l.below 0 (omega arith)))
    (cleared z (n / 2) (record { here = sym (digit_half n z) ∙ l.here; below = λ k h. sym (digit_half n k) ∙ l.below (suc k) (omega arith) }))

-- Turns

-- turns that change nothing may be left out
module _ {A : Type 0} {f : ℕ → A → A} {b x : A} {t : ℕ} where
  some_idle : (n : ℕ) → ((k : ℕ) → t ≤ k → k < t + n → f k x ≡ x) → Turned f b t x → Turned f b (t + n) x
  some_idle zero h e = let q : t + 0 ≡ t = omega arith in rw q e
  some_idle (suc n) h e =
      let q : t + suc n ≡ t + n + 1 = omega arith in
      rw q (one_turn (some_idle n (λ k i l. h k i (omega arith)) e) (sym (h (t + n) (omega arith) (omega arith))))

  idle_turns : (u : ℕ) → t ≤ u → ((k : ℕ) → t ≤ k → k < u → f k x ≡ x) → Turned f b t x → Turned f b u x
  idle_turns u l h e = let q : t + (u - t) ≡ u = omega arith in subst (λ (v : ℕ). Turned f b v x) q (some_idle (u - t) (λ k i j. h k i (omega arith)) e)

-- the turn of a task that the mask does not name leaves x as it is
pub record Idle {A : Type 0} (mask : ℕ) (f : ℕ → A → A) (x : A) : Type 0 where
  pub same : (k : ℕ) → k < tasks → bit mask k ≡ false → f k x ≡ x

-- x is what the turns of the tasks below t make of b, and the mask names the tasks in `left` and no other from t on
pub record NamedTurned {A : Type 0} (mask : ℕ) (f : ℕ → A → A) (b : A) (left : ℕ) (x : A) : Type 0 where
  t : ℕ
  fits : t ≤ tasks
  rest : (k : ℕ) → t ≤ k → k < tasks → digit left k ≡ digit mask k
  past : (k : ℕ) → k < t → digit left k ≡ 0
  turned : Turned f b t x

module _ {A : Type 0} {mask : ℕ} {f : ℕ → A → A} {b : A} where
  pub no_named_turn : {left : ℕ} {x : A} → left ≡ mask % 2 ^ tasks → x ≡ b → NamedTurned mask f b left x
  no_named_turn {left} e q = record {
    t = 0;
    fits = omega arith;
    rest = λ k h l. rw e (low_digit tasks mask k l);
    past = λ k h. absurd (omega arith);
    turned = no_turn_yet q;
  }

  -- up to a task below which none is left
  up_to : {left : ℕ} {x : A} → Idle mask f x → (n : NamedTurned mask f b left x) (u : ℕ) → n.t ≤ u → u ≤ tasks → ((k : ℕ) → k < u → digit left k ≡ 0) → Turned f b u x
  up_to i n u h l none =
      idle_turns u h (λ k p q. i.same k (omega arith) (let e : digit mask k ≡ 0 = sym (n.rest k p (omega arith)) ∙ none k q in rw e refl)) n.turned

  pub one_named_turn : {left r z : ℕ} {x y : A} → Idle mask f x → NamedTurned mask f b left x → (z ≡ lowest_task left) × (z < tasks) → r ≡ bit_and left (left - 1) →
      (bit mask z ≡ true → y ≡ f z x) → NamedTurned mask f b r y
  one_named_turn {left} {r} {z} {x} {y} i n low e turn = record {
    t = z + 1;
    fits = omega (arith, low.1);
    rest = λ k h l. c.above k (omega arith) ∙ n.rest k (omega (arith, reached)) l;
    past = λ k h. c.upto k (omega arith);
    turned = one_turn (up_to i n z reached (omega (arith, low.1)) l.below) (turn (rw named refl));
  }
    where
      l : Lowest left z
      l = rw low.0 (trailing_lowest tasks left (omega (arith, low.0, low.1)))

      c : Cleared left z r
      c = rw e (cleared z left l)

      -- no task below t is left
      reached : n.t ≤ z
      reached = decided (at_most n.t z)
        where
          decided : {p : Bool} → Reflects (n.t ≤ z) p → n.t ≤ z
          decided (right h) = h
          decided (wrong h) = absurd (omega (arith, n.past z (omega arith), l.here))

      named : digit mask z ≡ 1
      named = sym (n.rest z reached low.1) ∙ l.here

  pub all_named_turns : {left : ℕ} {x : A} → Idle mask f x → NamedTurned mask f b left x → left ≡ 0 → Turned f b tasks x
  all_named_turns i n e = up_to i n tasks n.fits (omega arith) (λ k h. rw e (no_digit k))

-- Idle turns of a mark

-- the hub is joined with itself
pub idle_gather : {j : ℕ → ℕ → ℕ} → Same j → (w mask : ℕ) (x : List ℕ) → Idle mask (λ t b. join_row j w hub (row_or_hub (bit mask t) t) b) x
idle_gather s w mask x = record { same = λ k h e. rw e (sym (join_self s w hub x)) }

-- a copy of a row is put on the row itself
put_copy : (w to : ℕ) (b : List ℕ) → put_row w to (row_of w to b) b ≡ b
unfolding put_row turns
put_copy w to b = steps w (omega arith)
  where
    steps : (n : ℕ) → n ≤ w → turns n (λ c x. set x (to * w + c) (get_or (row_of w to b) c 0)) b ≡ b
    steps zero h = refl
    steps (suc n) h = rw (steps n (omega arith), row_cell w to b n h) (set-get_or b (to * w + n) 0)

pub idle_spread : (w mask : ℕ) {x row : List ℕ} → row_of w hub x ≡ row → Idle mask (λ q b. put_row w (row_or_hub (is_released mask q) q) row b) x
idle_spread w mask {x} {row} e = record { same = λ k h f. rw (lt-ltb k tasks h, f, ← e) (put_copy w hub x) }

-- a row after another was overwritten
pub row_put : (w from to : ℕ) (b row : List ℕ) → ¬ (from ≡ to) → row_of w from (put_row w to row b) ≡ row_of w from b
unfolding row_of turns
row_put w from to b row d = steps w (omega arith)
  where
    steps : (n : ℕ) → n ≤ w → turns n (λ c x. set x c (cell w (put_row w to row b) from c)) (replicate w 0) ≡ turns n (λ c x. set x c (cell w b from c)) (replicate w 0)
    steps zero h = refl
    steps (suc n) h = rw (steps n (omega arith), put_other w b row to from n h d) refl
