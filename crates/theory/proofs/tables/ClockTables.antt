-- The clocks are exact: a cell is above i just where order from a record of its task, at place i or later, has come to the row's node.
-- Assumes nothing.
use mathlib.Core.Path.{◌≡◌, refl, ap}
use mathlib.Core.Bool.{Bool}
use mathlib.Core.Logic.{◌↔◌, ◌⊎◌, inl, inr}
use mathlib.Core.List.{List, [], ◌∷◌, ◌++◌}
use Prim.Native.Nat.{ℕ, suc, ◌<◌, max}
use native.Mathlib.Omega.{arith}
use lib.Dec.{T}
use lib.ListN.{length, replicate}
use Rattle.theory.specs.order.Recording.{Op, Event, act, lost, series, size_of, kind, ActsIn, acts}
use Rattle.theory.specs.fillings.Completion.{Filling, fills}
use Rattle.theory.specs.tables.Rows.{mark, cell, hub, cell_count}
use Rattle.theory.specs.tables.Reckonings.{clock_own, clock_act}
use Rattle.theory.specs.order.Limits.{tasks}
use Rattle.theory.proofs.basics.Reflects.{Reflects, right, wrong, equal, at_most, both}
use Rattle.theory.proofs.order.Carry.{Node, due, Releases}
use Rattle.theory.proofs.tables.Rows.{Sized, Joins, Knows, knows_same, same_max, sized_fresh}
use Rattle.theory.proofs.tables.Acts.{sized_flow, flow_acted, sized_clock_own, clock_own_same, clock_own_other, clock_own_acted}
use Rattle.theory.proofs.tables.Marks.{sized_mark}
use Rattle.theory.proofs.tables.Nodes.{row, InRange, due_in, row_below, row_one, released_row_lem, released_in}
use Rattle.theory.proofs.fillings.HasActed.{Acted}
use Rattle.theory.proofs.fillings.Came.{Came, Newly, occurs_short}
use Rattle.theory.proofs.tables.Exact.{ProperMask, Exact, Owned, ExactActed, exact_act, exact_mark, fresh_exact, acted_same, acted_act, acted_mark, fresh_acted}
use Rattle.theory.proofs.tables.Follows.{ToObject}

-- Definition

-- a clock's column follows the records of its task
abbrev pub OfTask : ℕ → Event → List Event → Type 0
OfTask u e after = ActsIn u e

-- a cell knows of place i where its number is above it
abbrev pub Past : ℕ → ℕ → Type 0
Past i x = i < x

pub record ExactClocks (w : Filling) (es : List Event) (b : List ℕ) : Type 0 where
  pub sized : Sized tasks b
  pub column : (u i : ℕ) → u < tasks → Exact (Past i) w (OfTask u) es tasks b i u
  pub acting : ExactActed w es tasks b

-- the greater of two numbers is above what one of them is above
joins_max : (i : ℕ) → Joins max (Past i)
joins_max i = record { alone = same_max; joined = λ x y. (λ h. decided x y h (at_most (suc i) x), of x y); nothing = λ h. omega arith }
  where
    decided : (x y : ℕ) → i < max x y → {p : Bool} → Reflects (i < x) p → (i < x) ⊎ (i < y)
    decided x y h (right k) = inl k
    decided x y h (wrong f) = inr (omega arith)

    of : (x y : ℕ) → (i < x) ⊎ (i < y) → i < max x y
    of x y (inl h) = omega arith
    of x y (inr h) = omega arith

-- Acts

-- a later record displaces none
keeps : (u : ℕ) (x e : Event) (after : List Event) → OfTask u e (after ++ (x ∷ [])) ↔ (Unit {0} × OfTask u e after)
keeps u x e after = (λ a. (tt, a), λ a. a.1)

acting_one : {u t n : ℕ} {o : Op} → ActsIn u (act o t n) → u ≡ t
acting_one acts = refl

module _ {w : Filling} {es : List Event} {b : List ℕ} {t n number : ℕ} (o : Op) (x : ExactClocks w es b) (ht : t < tasks) (hn : n < size_of (series o))
    (numbered : number ≡ suc (length es)) where
  -- at the own cell the number is the act's, elsewhere nothing changed
  owned : (u i : ℕ) → u < tasks → Owned (Past i) w (OfTask u) (Unit {0}) es (act o t n) t tasks (clock_own t number b) i u
  owned u i hu = record { cells = λ m r. decided m r (both (equal (row m) t) (equal u t)); hub = hub_kept }
    where
      decided : {c : Bool} (m : Node) → InRange m → Reflects ((row m ≡ t) × (u ≡ t)) c →
          Knows (Past i) tasks (clock_own t number b) (row m) u ↔ ((Unit {0} × Came w (OfTask u) es i m) ⊎ (Newly (OfTask u) es (act o t n) i × (m ≡ due t)))
      decided m r (right (e, q)) =
          (λ a. let h : i < number = rw (own_cell) at a.knows in inr ((omega arith, rw q acts), row_one r (due_in ht) e), λ y. record { knows = rw own_cell (below y) })
        where
          own_cell : cell tasks (clock_own t number b) (row m) u ≡ number
          own_cell = rw (e, q) (clock_own_same x.sized t number ht)

          below : (Unit {0} × Came w (OfTask u) es i m) ⊎ (Newly (OfTask u) es (act o t n) i × (m ≡ due t)) → i < number
          below (inl (_, d)) = let h = d.recent in let l = occurs_short d.occurs in omega arith
          below (inr ((h, a), e)) = omega arith
      decided m r (wrong apart) = (λ a. inl (tt, ((x.column u i hu).cells m r).0 (other.0 a)), λ y. other.1 (before y))
        where
          other : Knows (Past i) tasks (clock_own t number b) (row m) u ↔ Knows (Past i) tasks b (row m) u
          other = let h = row_below r in knows_same (clock_own_other b t number (row m) u ht hu (omega arith) apart)

          before : (Unit {0} × Came w (OfTask u) es i m) ⊎ (Newly (OfTask u) es (act o t n) i × (m ≡ due t)) → Knows (Past i) tasks b (row m) u
          before (inl (_, d)) = ((x.column u i hu).cells m r).1 d
          before (inr ((h, a), e)) = absurd (apart (ap row e, acting_one a))

      hub_kept : T (fills w) → Knows (Past i) tasks (clock_own t number b) hub u ↔ (Unit {0} × ToObject w (OfTask u) es i)
      hub_kept f =
          let q = knows_same {P = Past i} (clock_own_other b t number hub u ht hu (omega arith) (λ y. omega (arith, y.0))) in
          (λ a. (tt, ((x.column u i hu).hub f).0 (q.0 a)), λ y. q.1 (((x.column u i hu).hub f).1 y.1))

  own_acting : ExactActed w (es ++ (act o t n ∷ [])) tasks (clock_own t number b)
  own_acting = acted_act o t n (λ u hu. clock_own_acted x.sized t number u ht hu) x.acting

  pub clocks_act : ((u : ℕ) → Releases (act o t n) (due u) → (u ≡ t) ⊎ (¬ Acted w u es)) → ExactClocks w (es ++ (act o t n ∷ [])) (clock_act (fills w) (kind o) t n number b)
  clocks_act starts =
      record {
        sized = sized_flow (sized_clock_own x.sized t number) max (fills w) _ _ t;
        column = λ u i hu. exact_act (joins_max i) (keeps u (act o t n)) starts ht hn hu (sized_clock_own x.sized t number) own_acting (x.column u i hu).ended (owned u i hu);
        acting = acted_same (λ u hu. flow_acted max (fills w) _ (sized_clock_own x.sized t number) (rw (released_row_lem o t n) (row_below (released_in o ht hn))) ht hu) own_acting;
      }

-- Marks

pub clocks_mark : {w : Filling} {es : List Event} {b : List ℕ} (mask : ℕ) → (¬ (w mask ≡ 0) → T (fills w)) → ProperMask (w mask) → ExactClocks w es b → ExactClocks w (es ++ (lost mask ∷ [])) (mark max tasks (w mask) b)
clocks_mark {w} mask asked f x =
    record {
      sized = sized_mark x.sized max (w mask);
      column = λ u i hu. exact_mark mask (keeps u (lost mask)) tt (joins_max i) x.sized (omega arith) hu asked f (x.column u i hu);
      acting = acted_mark max mask x.sized (omega arith) f x.acting;
    }

-- The fresh table

pub fresh_clocks : {w : Filling} → ExactClocks w [] (replicate (cell_count tasks) 0)
fresh_clocks = record { sized = sized_fresh tasks; column = λ u i hu. fresh_exact (joins_max i).nothing hu; acting = fresh_acted tasks (omega arith) }
