-- Takes, gives, looks and sets: each joins two rows, its task's and its object's, in the one direction or in the other. Assumes nothing.
use mathlib.Core.Path.{◌≡◌, refl, sym, ◌∙◌, subst}
use mathlib.Core.Bool.{Bool, true, false, cond, ◌||◌, true≢false}
use mathlib.Core.Logic.{◌≢◌}
use mathlib.Core.List.{List}
use Prim.Native.Nat.{ℕ, ◌≤◌, ◌<◌}
use native.Mathlib.Omega.{arith}
use borrow.Author.Tests.{lt-ltb, le-ltb}
use lib.Dec.{eqb}
use Rattle.theory.specs.order.Limits.{tasks, semaphores}
use Rattle.theory.specs.order.Recording.{take, give, look, set, start, join, kind, loss_mark, accesses, series_size}
use Rattle.theory.specs.acceptance.Table.{Fitting}
use Rattle.theory.specs.tables.Rows.{semaphore_row, flag_row, hub, join_row, flow, onward}
use Rattle.theory.proofs.basics.Reflects.{Reflects, right, wrong, equal}
use Rattle.theory.proofs.tables.Rows.{Same, join_self}

-- the kinds that hand order over to an object or from it
abbrev pub hands_over : ℕ → Bool
hands_over k = eqb k (kind take) || eqb k (kind give) || eqb k (kind look) || eqb k (kind set)

-- the kinds by which order comes from another row or goes to one: these, a start and a join
abbrev pub passes_on : ℕ → Bool
passes_on k = eqb k (kind take) || eqb k (kind give) || eqb k (kind look) || eqb k (kind set) || eqb k (kind start) || eqb k (kind join)

pub data HandOverKind : ℕ → Type 0 where
  a_take : HandOverKind (kind take)
  a_give : HandOverKind (kind give)
  a_look : HandOverKind (kind look)
  a_set : HandOverKind (kind set)

pub hands_over_lem : (k : ℕ) → hands_over k ≡ true → HandOverKind k
hands_over_lem k e = decided (equal k (kind take)) (equal k (kind give)) (equal k (kind look)) (equal k (kind set)) e
  where
    decided : {a b c d : Bool} → Reflects (k ≡ kind take) a → Reflects (k ≡ kind give) b → Reflects (k ≡ kind look) c → Reflects (k ≡ kind set) d →
        (a || b || c || d) ≡ true → HandOverKind k
    decided (right q) _ _ _ _ = subst HandOverKind (sym q) a_take
    decided (wrong _) (right q) _ _ _ = subst HandOverKind (sym q) a_give
    decided (wrong _) (wrong _) (right q) _ _ = subst HandOverKind (sym q) a_look
    decided (wrong _) (wrong _) (wrong _) (right q) _ = subst HandOverKind (sym q) a_set
    decided (wrong _) (wrong _) (wrong _) (wrong _) e = absurd (true≢false (sym e))

-- such a record is no mark and no access
pub hand_acts : {k : ℕ} → HandOverKind k → k ≢ loss_mark
hand_acts a_take q = omega arith
hand_acts a_give q = omega arith
hand_acts a_look q = omega arith
hand_acts a_set q = omega arith

pub hand_no_access : {k : ℕ} → HandOverKind k → accesses k ≡ false
hand_no_access a_take = refl
hand_no_access a_give = refl
hand_no_access a_look = refl
hand_no_access a_set = refl

-- it is over the flags or over the semaphores
pub over_semaphores : {k : ℕ} → HandOverKind k → k ≢ kind look → k ≢ kind set → series_size k ≡ semaphores
over_semaphores a_take l s = refl
over_semaphores a_give l s = refl
over_semaphores a_look l s = absurd (l refl)
over_semaphores a_set l s = absurd (s refl)

-- those that release
abbrev pub releases : ℕ → Bool
releases k = eqb k (kind give) || eqb k (kind set)

-- the row of the semaphore or flag
abbrev pub object_row : ℕ → ℕ → ℕ
object_row k n = cond (eqb k (kind look) || eqb k (kind set)) (flag_row n) (semaphore_row n)

pub object_fits : {k t n : ℕ} → HandOverKind k → Fitting k t n → object_row k n < hub
object_fits a_take f = let h = f.on_fits in omega arith
object_fits a_give f = let h = f.on_fits in omega arith
object_fits a_look f = let h = f.on_fits in omega arith
object_fits a_set f = let h = f.on_fits in omega arith

-- a row that is picked is in the table if both are
pub picked_fits : (b : Bool) (x y : ℕ) {z m : ℕ} → z ≡ cond b x y → x ≤ m → y ≤ m → z ≤ m
picked_fits true x y e h l = omega (arith, e)
picked_fits false x y e h l = omega (arith, e)

-- Order over them

module _ {j : ℕ → ℕ → ℕ} (same : Same j) (w t : ℕ) (h : t < tasks) where
  -- an act that releases to nobody
  acquired_alone : (asked : Bool) (from : ℕ) (b : List ℕ) → join_row j w t from b ≡ flow j w asked from t t b
  unfolding flow
  acquired_alone asked from b =
      rw (lt-ltb t tasks h, ← join_self same w t (join_row j w t from b)) (join_self same w t (join_row j w t from b))

  -- one that acquires from nobody, in a table whose marks ask the hub and in one whose marks do not
  released_asked : (to : ℕ) (b : List ℕ) → tasks ≤ to → join_row j w hub t (join_row j w to t b) ≡ flow j w true t to t b
  unfolding flow
  released_asked to b l = rw (le-ltb to tasks l, ← join_self same w t b) refl

  released_alone : (to : ℕ) (b : List ℕ) → tasks ≤ to → join_row j w to t b ≡ flow j w false t to t b
  unfolding flow
  released_alone to b l = rw (le-ltb to tasks l, ← join_self same w t b) (join_self same w t (join_row j w to t b))

  -- the rows by the kind, as they arrived
  pub handed : {k : ℕ} → HandOverKind k → (n : ℕ) (b : List ℕ) → join_row j w (cond (releases k) (object_row k n) t) (cond (releases k) t (object_row k n)) b ≡ onward j w false k t n b
  handed a_take n b = acquired_alone false (semaphore_row n) b
  handed a_give n b = released_alone (semaphore_row n) b (omega arith)
  handed a_look n b = acquired_alone false (flag_row n) b
  handed a_set n b = released_alone (flag_row n) b (omega arith)

  -- and in the fullest filling, where what is released goes to the hub as well
  pub handed_asked : {k : ℕ} → HandOverKind k → (n : ℕ) (b : List ℕ) →
      join_row j w hub (cond (releases k) t hub) (join_row j w (cond (releases k) (object_row k n) t) (cond (releases k) t (object_row k n)) b) ≡ onward j w true k t n b
  handed_asked a_take n b = sym (join_self same w hub (join_row j w t (semaphore_row n) b)) ∙ acquired_alone true (semaphore_row n) b
  handed_asked a_give n b = released_asked (semaphore_row n) b (omega arith)
  handed_asked a_look n b = sym (join_self same w hub (join_row j w t (flag_row n) b)) ∙ acquired_alone true (flag_row n) b
  handed_asked a_set n b = released_asked (flag_row n) b (omega arith)
