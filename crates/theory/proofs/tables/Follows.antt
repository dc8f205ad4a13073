-- Which rows order has come to, however that is kept: an act whose rows learn what it reads keeps it exact, in any filling. Clocks, sets and
-- the words of the lazy reckoning are instances. Assumes nothing.
use mathlib.Core.Path.{◌≡◌, refl, sym, ◌∙◌, subst}
use mathlib.Core.Bool.{Bool, true, false, cond, not, ◌||◌, ◌&&◌}
use mathlib.Core.Logic.{◌↔◌, ◌⊎◌, inl, inr}
use mathlib.Core.List.{List, [], ◌∷◌, ◌++◌}
use Prim.Native.Nat.{ℕ, ◌≤◌, ◌<◌}
use native.Mathlib.Omega.{arith}
use borrow.Author.Tests.{lt-ltb, le-ltb}
use lib.Dec.{T, ltb}
use Rattle.theory.specs.order.Recording.{Op, join, Event, act, series, size_of, kind, ◌is◌}
use Rattle.theory.specs.fillings.Completion.{Filling, fills}
use Rattle.theory.specs.tables.Rows.{hub, acquired_row, released_row, also_released}
use Rattle.theory.specs.order.Limits.{tasks}
use Rattle.theory.proofs.order.Carry.{Node, due, acted, Acquires, own, Releases, own_next}
use Rattle.theory.proofs.tables.Nodes.{row, InRange, due_in, Object, object_row_lem, row_below, row_one, acquired_node, released_node, read_node, read_row, released_row_lem, read_in, released_in, released_releases, acquires_cases, releases_cases, read_acquires, acquired_read, joined_in, released_object}
use Rattle.theory.proofs.order.Tests.{some_snoc, snoc_some}
use Rattle.theory.proofs.fillings.Came.{Came, came_acted, Newly, Onward, came_next}
use Rattle.theory.proofs.fillings.HasActed.{Acted, Ended, ended_act}
use Rattle.theory.proofs.basics.Reflects.{Reflects, right, wrong, at_most, by_test, is_true}

-- Definition

-- order has come to some object
abbrev pub ToObject : Filling → (Event → List Event → Type 0) → List Event → ℕ → Type 0
ToObject w Chosen es i = (m : Node) × Object m × Came w Chosen es i m

-- K says of the rows to which order has come from place i or later
pub record Follows (K : ℕ → Type 0) (w : Filling) (Chosen : Event → List Event → Type 0) (es : List Event) (i : ℕ) : Type 0 where
  pub cells : (n : Node) → InRange n → K (row n) ↔ Came w Chosen es i n
  pub hub : T (fills w) → K hub ↔ ToObject w Chosen es i
  pub ended : Ended w Chosen es i

-- what it is to say after an act's own part: what stays of what had come, and the act itself at its task's next act
pub record OwnPart (K : ℕ → Type 0) (w : Filling) (Chosen : Event → List Event → Type 0) (Stays : Type 0) (es : List Event) (x : Event) (t i : ℕ) : Type 0 where
  pub cells : (n : Node) → InRange n → K (row n) ↔ ((Stays × Came w Chosen es i n) ⊎ (Newly Chosen es x i × (n ≡ due t)))
  pub hub : T (fills w) → K hub ↔ (Stays × ToObject w Chosen es i)

-- Acts

-- which rows an act releases to
abbrev pub Released-row : Bool → ℕ → ℕ → ℕ → Type 0
Released-row asked t released r = (r ≡ t) ⊎ ((r ≡ released) ⊎ (r ≡ also_released asked released t))

module _ {K K' : ℕ → Type 0} {flag : Bool} {w : Filling} {Chosen : Event → List Event → Type 0} {Stays : Type 0} {es : List Event} {o : Op} {t n i : ℕ}
    (keeps : (e : Event) (after : List Event) → Chosen e (after ++ (act o t n ∷ [])) ↔ (Stays × Chosen e after))
    (starts : (u : ℕ) → Releases (act o t n) (due u) → (u ≡ t) ⊎ (¬ Acted w u es)) (ht : t < tasks) (hn : n < size_of (series o))
    (flagged : n < tasks → (flag ≡ true) ↔ Acted w n (es ++ (act o t n ∷ []))) (ended : Ended w Chosen es i) (owned : OwnPart K w Chosen Stays es (act o t n) t i)
    (flowed : (r : ℕ) → K' r ↔ (K r ⊎ (Released-row (fills w) t (released_row (kind o) t n) r × (K t ⊎ K (acquired_row (kind o) t n (o is join && flag)))))) where
  -- the row that it reads
  abbrev acquired : ℕ
  acquired = acquired_row (kind o) t n (o is join && flag)

  abbrev Came-on : Node → Type 0
  Came-on m = (Stays × Onward w Chosen es (act o t n) i m) ⊎ (Newly Chosen es (act o t n) i × Releases (act o t n) m)

  released_below : released_row (kind o) t n < hub
  released_below = rw (released_row_lem o t n) (row_below (released_in o ht hn))

  -- The rows that it releases to

  also_none : {m : Node} → InRange m → (p : Bool) → row m ≡ cond p t hub → row m ≡ t
  also_none r true e = e
  also_none r false e = absurd (omega (arith, row_below r))

  released_by : {m : Node} → InRange m → Released-row (fills w) t (released_row (kind o) t n) (row m) → Releases (act o t n) m
  released_by r (inl e) = subst (Releases (act o t n)) (sym (row_one r (due_in ht) e)) own_next
  released_by r (inr (inl e)) = subst (Releases (act o t n)) (sym (row_one r (released_in o ht hn) (rw (released_row_lem o t n) at e))) (released_releases o t n)
  released_by r (inr (inr e)) = subst (Releases (act o t n)) (sym (row_one r (due_in ht) (also_none r (ltb (released_row (kind o) t n) tasks || not (fills w)) e))) own_next

  by_released : {m : Node} → InRange m → Releases (act o t n) m → Released-row (fills w) t (released_row (kind o) t n) (row m)
  by_released r x = cases r (releases_cases x)
    where
      cases : {m : Node} → InRange m → (m ≡ due t) ⊎ ((m ≡ acted t) ⊎ (m ≡ released_node o t n)) → Released-row (fills w) t (released_row (kind o) t n) (row m)
      cases r (inl e) = inl (rw e)
      cases r (inr (inl e)) = absurd (none (subst InRange e r))
        where
          none : InRange (acted t) → ⊥
          none q = elim q [ ]
      cases r (inr (inr e)) = inr (inl (rw (e, released_row_lem o t n)))

  -- the hub is released to where an object is
  hub_released : T (fills w) → {m : Node} → Object m → Releases (act o t n) m → Released-row (fills w) t (released_row (kind o) t n) hub
  hub_released f m x = cases m (releases_cases x)
    where
      cases : {m : Node} → Object m → (m ≡ due t) ⊎ ((m ≡ acted t) ⊎ (m ≡ released_node o t n)) → Released-row (fills w) t (released_row (kind o) t n) hub
      cases m (inl e) = absurd (none (subst Object e m))
        where
          none : Object (due t) → ⊥
          none q = elim q [ ]
      cases m (inr (inl e)) = absurd (none (subst Object e m))
        where
          none : Object (acted t) → ⊥
          none q = elim q [ ]
      cases m (inr (inr e)) = inr (inr (rw (le-ltb (released_row (kind o) t n) tasks (rw (released_row_lem o t n) (object_row_lem (subst Object e m))), is_true (by_test (fills w)) f)))

  released_hub : Released-row (fills w) t (released_row (kind o) t n) hub → Object (released_node o t n)
  released_hub (inl e) = absurd (omega arith)
  released_hub (inr (inl e)) = let h = released_below in absurd (omega arith)
  released_hub (inr (inr e)) = decided (at_most tasks (released_row (kind o) t n))
    where
      decided : {p : Bool} → Reflects (tasks ≤ released_row (kind o) t n) p → Object (released_node o t n)
      decided (right h) = released_object o ht hn (rw (released_row_lem o t n) at h)
      decided (wrong f) = let q : hub ≡ t = rw (lt-ltb (released_row (kind o) t n) tasks (omega arith)) at e in absurd (omega arith)

  -- What it acquires

  from_acquired : {m p : Node} → InRange p → Acquires p (act o t n) → Releases (act o t n) m → K (row p) → Came-on m
  from_acquired {m} {p} r h x a = cases ((owned.cells p r).0 a)
    where
      cases : (Stays × Came w Chosen es i p) ⊎ (Newly Chosen es (act o t n) i × (p ≡ due t)) → Came-on m
      cases (inl (s, d)) = inl (s, inr (p, d, (h, x)))
      cases (inr (d, e)) = inr (d, x)

  -- a join of a task that has acted
  from_joined : {m : Node} → Acquires (acted n) (act o t n) → flag ≡ true → Releases (act o t n) m → K n → Came-on m
  from_joined {m} h f x a = cases ((owned.cells (due n) (due_in l)).0 a)
    where
      l : n < tasks
      l = joined_in h hn

      onward_from : Stays → Came w Chosen es i (due n) → Acted w n es ⊎ (n ≡ t) → Came-on m
      onward_from s d (inl q) = inl (s, inr (acted n, ended.joined n q d, (h, x)))
      onward_from s d (inr e) = inl (s, inr (due t, subst (λ (k : ℕ). Came w Chosen es i (due k)) e d, (own, x)))

      cases : (Stays × Came w Chosen es i (due n)) ⊎ (Newly Chosen es (act o t n) i × (due n ≡ due t)) → Came-on m
      cases (inl (s, d)) = onward_from s d (some_snoc es ((flagged l).0 f))
      cases (inr (d, e)) = inr (d, x)

  source_came : {m : Node} → Releases (act o t n) m → K t ⊎ K acquired → Came-on m
  source_came x (inl a) = from_acquired (due_in ht) own x a
  source_came {m} x (inr a) = cases (read_acquires o t n flag)
    where
      read : K (row (read_node o t n flag))
      read = rw (read_row o t n flag) at a

      cases : Acquires (read_node o t n flag) (act o t n) ⊎ (Acquires (acted n) (act o t n) × (read_node o t n flag ≡ due n) × (flag ≡ true)) → Came-on m
      cases (inl h) = from_acquired (read_in o flag ht hn) h x read
      cases (inr (h, e, f)) = from_joined h f x (rw e at read)

  came_source : {p : Node} → Stays → Acquires p (act o t n) → Came w Chosen es i p → K t ⊎ K acquired
  came_source {p} s h d = cases (acquires_cases h)
    where
      of_acquired : p ≡ acquired_node o t n → (acquired_node o t n ≡ read_node o t n flag) ⊎ (Acquires (acted n) (act o t n) × (acquired_node o t n ≡ acted n) × (read_node o t n true ≡ due n)) →
          K acquired
      of_acquired e (inl q) = rw (read_row o t n flag) ((owned.cells (read_node o t n flag) (read_in o flag ht hn)).1 (inl (s, subst (Came w Chosen es i) (e ∙ q) d)))
      of_acquired e (inr (k, q, r)) =
          let l = joined_in k hn in
          let a : Came w Chosen es i (acted n) = subst (Came w Chosen es i) (e ∙ q) d in
          let raised = (flagged l).1 (snoc_some (act o t n) (ended.acting n a)) in
          rw (read_row o t n flag, raised, r) ((owned.cells (due n) (due_in l)).1 (inl (s, came_acted a)))

      cases : (p ≡ due t) ⊎ (p ≡ acquired_node o t n) → K t ⊎ K acquired
      cases (inl e) = inl ((owned.cells (due t) (due_in ht)).1 (inl (s, subst (Came w Chosen es i) e d)))
      cases (inr e) = inr (of_acquired e (acquired_read o t n flag))

  own_source : Newly Chosen es (act o t n) i → K t ⊎ K acquired
  own_source d = inl ((owned.cells (due t) (due_in ht)).1 (inr (d, refl)))

  pub follows_act : Follows K' w Chosen (es ++ (act o t n ∷ [])) i
  follows_act =
      record {
        cells = λ m r. (λ a. (came_next es (act o t n) keeps).1 (to m r ((flowed (row m)).0 a)), λ d. (flowed (row m)).1 (from m r ((came_next es (act o t n) keeps).0 d)));
        hub = λ f. (λ a. to_hub f ((flowed hub).0 a), λ d. (flowed hub).1 (from_hub f d.0 d.1 ((came_next es (act o t n) keeps).0 d.2)));
        ended = ended_act keeps starts ended;
      }
    where
      to : (m : Node) → InRange m → K (row m) ⊎ (Released-row (fills w) t (released_row (kind o) t n) (row m) × (K t ⊎ K acquired)) → Came-on m
      to m r (inl a) = stayed ((owned.cells m r).0 a)
        where
          stayed : (Stays × Came w Chosen es i m) ⊎ (Newly Chosen es (act o t n) i × (m ≡ due t)) → Came-on m
          stayed (inl (s, d)) = inl (s, inl d)
          stayed (inr (d, e)) = inr (d, subst (Releases (act o t n)) (sym e) own_next)
      to m r (inr (q, a)) = source_came (released_by r q) a

      from : (m : Node) → InRange m → Came-on m → K (row m) ⊎ (Released-row (fills w) t (released_row (kind o) t n) (row m) × (K t ⊎ K acquired))
      from m r (inl (s, inl d)) = inl ((owned.cells m r).1 (inl (s, d)))
      from m r (inl (s, inr (p, d, (h, x)))) = inr (by_released r x, came_source s h d)
      from m r (inr (d, x)) = inr (by_released r x, own_source d)

      to_hub : T (fills w) → K hub ⊎ (Released-row (fills w) t (released_row (kind o) t n) hub × (K t ⊎ K acquired)) → ToObject w Chosen (es ++ (act o t n ∷ [])) i
      to_hub f (inl a) = let (s, (m, k, d)) = (owned.hub f).0 a in (m, k, (came_next es (act o t n) keeps).1 (inl (s, inl d)))
      to_hub f (inr (q, a)) = (released_node o t n, released_hub q, (came_next es (act o t n) keeps).1 (source_came (released_releases o t n) a))

      from_hub : T (fills w) → (m : Node) → Object m → Came-on m → K hub ⊎ (Released-row (fills w) t (released_row (kind o) t n) hub × (K t ⊎ K acquired))
      from_hub f m k (inl (s, inl d)) = inl ((owned.hub f).1 (s, (m, k, d)))
      from_hub f m k (inl (s, inr (p, d, (h, x)))) = inr (hub_released f k x, came_source s h d)
      from_hub f m k (inr (d, x)) = inr (hub_released f k x, own_source d)
