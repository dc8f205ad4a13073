-- The control table is exact: it holds the phases, the count, the profile, the holders and the last givers of the recording so far. That of a fresh
-- state, and whatever is written after the cells of acceptance. Assumes nothing.
use mathlib.Core.Path.{◌≡◌, refl, ◌∙◌, ap}
use mathlib.Core.List.{List, []}
use Prim.Native.Nat.{ℕ, zero, suc, ◌+◌, ◌-◌, ◌≤◌, ◌<◌}
use native.Mathlib.Omega.{arith}
use lib.Dec.{eqb, eqb-suc-zero}
use lib.ListN.{length, get_or, set, replicate, length-set, get_or-replicate}
use lib.Seq.{get_or-set_other}
use Rattle.theory.specs.order.Limits.{tasks, semaphores}
use Rattle.theory.specs.order.Recording.{Event}
use Rattle.theory.specs.acceptance.Table.{is_live, is_unseen, phase}
use Rattle.theory.specs.acceptance.Owning.{under, Who, nobody, by, next_holder, who_since}
use Rattle.theory.specs.skipping.Skipping.{next_giver}
use Rattle.theory.specs.acceptance.Control.{live_in, unseen_in, count_in, profile_at, under_in, holder_at, giver_at, acceptance_cells}
use Rattle.theory.specs.totals.Totals.{control_cells}
use Rattle.theory.specs.feeding.Step.{fresh_control}

-- Definition

-- a task as the table has it
abbrev pub who_number : Who → ℕ
who_number nobody = 0
who_number (by t) = t + 1

-- at these places the table has who it is for each semaphore
pub record Written (place : ℕ → ℕ) (next : Event → ℕ → Who → Who) (es : List Event) (control : List ℕ) : Type 0 where
  pub at : (s : ℕ) → s < semaphores → get_or control (place s) 0 ≡ who_number (who_since next es s)

-- in another table, too, that is the same there
pub written_in : {place : ℕ → ℕ} {next : Event → ℕ → Who → Who} {es : List Event} {control : List ℕ} → Written place next es control → (after : List ℕ) →
    ((s : ℕ) → s < semaphores → get_or after (place s) 0 ≡ get_or control (place s) 0) → Written place next es after
written_in x after same = record { at = λ s l. same s l ∙ x.at s l }

pub record ExactControl (es : List Event) (control : List ℕ) : Type 0 where
  pub size : length control ≡ control_cells
  pub count : count_in control ≡ length es
  pub live : (t : ℕ) → t < tasks → live_in control t ≡ is_live (phase es t)
  pub unseen : (t : ℕ) → t < tasks → unseen_in control t ≡ is_unseen (phase es t)
  pub profile : under_in control ≡ under es
  pub holders : Written holder_at next_holder es control
  pub givers : Written giver_at next_giver es control

-- The fresh table

fresh_live : (t : ℕ) → t < tasks → live_in fresh_control t ≡ is_live (phase [] t)
fresh_live zero h = refl
fresh_live (suc t) h = rw (get_or-replicate {A = ℕ} (control_cells - 1) t 0 0 (omega arith), eqb-suc-zero t)

fresh_unseen : (t : ℕ) → t < tasks → unseen_in fresh_control t ≡ is_unseen (phase [] t)
fresh_unseen zero h = refl
fresh_unseen (suc t) h = rw (get_or-replicate {A = ℕ} (control_cells - 1) t 0 0 (omega arith), eqb-suc-zero t)

pub fresh_control_lem : ExactControl [] fresh_control
fresh_control_lem =
    record {
      size = refl;
      count = refl;
      live = fresh_live;
      unseen = fresh_unseen;
      profile = refl;
      holders = record { at = λ s h. empty (holder_at s) (omega arith) (omega arith) };
      givers = record { at = λ s h. empty (giver_at s) (omega arith) (omega arith) };
    }
  where
    empty : (i : ℕ) → 0 < i → i < control_cells → get_or fresh_control i 0 ≡ 0
    empty i h l = get_or-set_other (replicate control_cells 0) 0 i 1 0 (λ q. omega arith) ∙ get_or-replicate {A = ℕ} control_cells i 0 0 l

-- Acceptance does not look at what lies after its own cells

pub exact_elsewhere : {es : List Event} {control : List ℕ} → ExactControl es control → (i v : ℕ) → acceptance_cells ≤ i → ExactControl es (set control i v)
exact_elsewhere {es} {control} x i v h =
    record {
      size = length-set control i v ∙ x.size;
      count = other tasks (omega arith) ∙ x.count;
      live = λ t l. ap (λ (n : ℕ). eqb n 1) (other t (omega arith)) ∙ x.live t l;
      unseen = λ t l. ap (λ (n : ℕ). eqb n 0) (other t (omega arith)) ∙ x.unseen t l;
      profile = ap (λ (n : ℕ). eqb n 1) (other profile_at (omega arith)) ∙ x.profile;
      holders = written_in x.holders (set control i v) (λ s l. other (holder_at s) (omega arith));
      givers = written_in x.givers (set control i v) (λ s l. other (giver_at s) (omega arith));
    }
  where
    other : (j : ℕ) → j < acceptance_cells → get_or (set control i v) j 0 ≡ get_or control j 0
    other j l = get_or-set_other control i j v 0 (λ q. omega arith)
