-- What an accepted record writes into the control table, but for the count: cells that acceptance looks at, and no others. Assumes nothing.
use mathlib.Core.Path.{◌≡◌, refl, ◌∙◌}
use mathlib.Core.Bool.{Bool, true, false, cond}
use mathlib.Core.Logic.{◌≢◌}
use mathlib.Core.List.{List}
use Prim.Native.Nat.{ℕ, ◌+◌, ◌≤◌, ◌<◌}
use native.Mathlib.Omega.{arith}
use lib.ListN.{length, get_or, set, length-set}
use lib.Seq.{get_or-set_other}
use Rattle.theory.specs.order.Limits.{semaphores}
use Rattle.theory.specs.order.Recording.{Op, kind}
use Rattle.theory.specs.acceptance.Table.{Proper}
use Rattle.theory.specs.tables.Counters.{one_more, raise}
use Rattle.theory.specs.acceptance.Control.{count_at, count_in, profile_at, under_in, holder_at, giver_at, gave_in, skipped_at, acceptance_cells, taken_by, given_by, updated, control_after}
use Rattle.theory.proofs.basics.Reflects.{Reflects, right, wrong, equal}
use Rattle.theory.proofs.acceptance.Accepted.{fits_of}

-- the table with some of these cells written
pub data Rewritten (control : List ℕ) : List ℕ → Type 0 where
  as_before : Rewritten control control
  and_set : {c : List ℕ} → Rewritten control c → (i v : ℕ) → i < acceptance_cells → i ≢ count_at → Rewritten control (set c i v)

pub rewritten_length : {control c : List ℕ} → Rewritten control c → length c ≡ length control
rewritten_length as_before = refl
rewritten_length (and_set {c} x i v h n) = length-set c i v ∙ rewritten_length x

pub rewritten_count : {control c : List ℕ} → Rewritten control c → count_in c ≡ count_in control
rewritten_count as_before = refl
rewritten_count (and_set {c} x i v h n) = get_or-set_other c i count_at v 0 (λ q. n (omega arith)) ∙ rewritten_count x

rewritten_above : {control c : List ℕ} → Rewritten control c → (i : ℕ) → acceptance_cells ≤ i → get_or c i 0 ≡ get_or control i 0
rewritten_above as_before i l = refl
rewritten_above (and_set {c} x j v h n) i l = get_or-set_other c j i v 0 (λ q. omega arith) ∙ rewritten_above x i l

rewritten_raise : {control c : List ℕ} → Rewritten control c → (i : ℕ) → i < acceptance_cells → i ≢ count_at → Rewritten control (raise i c)
unfolding raise
rewritten_raise {c = c} x i h n = and_set x i (one_more (get_or c i 0)) h n

-- a semaphore that is taken, if the take is skipped or not, and one that is given
module _ (task s : ℕ) (control : List ℕ) (h : s < semaphores) where
  pub taken_rewrites : (skips : Bool) → Rewritten control (set (cond skips (raise skipped_at control) control) (holder_at s) (task + 1))
  taken_rewrites true = and_set (rewritten_raise as_before skipped_at (omega arith) (λ q. omega arith)) (holder_at s) (task + 1) (omega arith) (λ q. omega arith)
  taken_rewrites false = and_set as_before (holder_at s) (task + 1) (omega arith) (λ q. omega arith)

  pub given_rewrites : Rewritten control (set (set control (holder_at s) 0) (giver_at s) (task + 1))
  given_rewrites = and_set (and_set as_before (holder_at s) 0 (omega arith) (λ q. omega arith)) (giver_at s) (task + 1) (omega arith) (λ q. omega arith)

module _ (k task on : ℕ) (control : List ℕ) (p : Proper k task on) where
  pub updated_rewrites : Rewritten control (updated k task on control)
  updated_rewrites = decided (equal k (kind Op.start)) (equal k (kind Op.join)) (equal k (kind Op.take)) (equal k (kind Op.give)) (equal k (kind Op.owned))
    where
      one : (i v : ℕ) → i < acceptance_cells → i ≢ count_at → Rewritten control (set control i v)
      one i v h n = and_set as_before i v h n

      under : (b : Bool) {after : List ℕ} → Rewritten control after → Rewritten control (cond b after control)
      under true x = x
      under false x = as_before

      decided : {a b c d e : Bool} → Reflects (k ≡ kind Op.start) a → Reflects (k ≡ kind Op.join) b → Reflects (k ≡ kind Op.take) c → Reflects (k ≡ kind Op.give) d → Reflects (k ≡ kind Op.owned) e →
          Rewritten control
          (cond a (set control on 1) (cond b (set control on 2) (cond c (taken_by task on control) (cond d (given_by task on control) (cond e (set control profile_at 1) control)))))
      decided (right q) _ _ _ _ = let f = (fits_of p Op.start q).on_fits in one on 1 (omega arith) (λ w. omega arith)
      decided (wrong _) (right q) _ _ _ = let f = (fits_of p Op.join q).on_fits in one on 2 (omega arith) (λ w. omega arith)
      decided (wrong _) (wrong _) (right q) _ _ = under (under_in control) (taken_rewrites task on control (fits_of p Op.take q).on_fits (gave_in control on task))
      decided (wrong _) (wrong _) (wrong _) (right q) _ = under (under_in control) (given_rewrites task on control (fits_of p Op.give q).on_fits)
      decided (wrong _) (wrong _) (wrong _) (wrong _) (right q) = one profile_at 1 (omega arith) (λ w. omega arith)
      decided (wrong _) (wrong _) (wrong _) (wrong _) (wrong _) = as_before

  -- the size of the table stays
  pub after_length : length (control_after k task on control) ≡ length control
  after_length = length-set (updated k task on control) count_at _ ∙ rewritten_length updated_rewrites

  -- and so does what acceptance does not look at
  pub updated_elsewhere : (i : ℕ) → acceptance_cells ≤ i → get_or (control_after k task on control) i 0 ≡ get_or control i 0
  updated_elsewhere i l = get_or-set_other (updated k task on control) count_at i _ 0 (λ q. omega arith) ∙ rewritten_above updated_rewrites i l
