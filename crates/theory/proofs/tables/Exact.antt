-- A column of a table is exact if its cells say to which nodes order has come. Acts and marks keep it so, in any filling, for
-- clocks and sets alike and at any width. Assumes nothing.
use mathlib.Core.Path.{◌≡◌, refl, sym, subst}
use mathlib.Core.Bool.{Bool, true, false, cond}
use mathlib.Core.Logic.{◌↔◌, ◌⊎◌, inl, inr}
use mathlib.Core.List.{List, [], ◌∷◌, ◌++◌}
use Prim.Native.Nat.{ℕ, ◌*◌, ◌≤◌, ◌<◌}
use native.Mathlib.Omega.{arith}
use borrow.Author.Tests.{lt-ltb, ne_eqb}
use lib.Dec.{T, ltb, eqb, lit<}
use lib.ListN.{replicate}
use Rattle.theory.specs.order.Recording.{Op, Event, act, lost, series, size_of, kind}
use Rattle.theory.specs.fillings.Completion.{bit, Named, Filling, fills}
use Rattle.theory.specs.tables.Rows.{hub, cell, released_row, onward, is_released, mix, mark, acted_row, table_rows}
use Rattle.theory.specs.order.Limits.{tasks}
use Rattle.theory.proofs.order.Carry.{Node, due, acted, semaphore, flag, Releases}
use Rattle.theory.proofs.fillings.Fullest.{FillerAcquires, FillerReleases, named_task}
use Rattle.theory.proofs.fillings.Reach.{nobody_named, acquired_due, acquired_acted, acquired_semaphore, acquired_flag, released_due, released_acted, released_semaphore, released_flag}
use Rattle.theory.proofs.tables.Rows.{Sized, Joins, Knows, fresh_cell, fresh_none}
use Rattle.theory.proofs.tables.Acts.{flow_knows}
use Rattle.theory.proofs.tables.Marks.{NamedKnows, mix_hub, mix_released, mix_untold, mix_acted}
use Rattle.theory.proofs.tables.Nodes.{row, InRange, due_in, Object, a_semaphore, a_flag, row_below, released_row_lem, released_in}
use Rattle.theory.proofs.tables.Follows.{ToObject, Follows, OwnPart, follows_act}
use Rattle.theory.proofs.tables.NamedRows.{bit_named, named_bit, released_test, test_released}
use Rattle.theory.proofs.order.Tests.{some_snoc, snoc_some, snoc_last}
use Rattle.theory.proofs.order.Places.{nowhere}
use Rattle.theory.proofs.fillings.Came.{Came, came_acted, Newly, Onward, came_next}
use Rattle.theory.proofs.fillings.HasActed.{ActsAs, Acted, Ended, no_releases, mark_came, came_mark, ended_mark, none_acted}
use Rattle.theory.proofs.basics.Reflects.{Reflects, right, wrong, same_as, equal, at_most, by_test}

-- Definition

-- column c: P is what its cells know where order has come from place i or later
abbrev pub Exact : (ℕ → Type 0) → Filling → (Event → List Event → Type 0) → List Event → ℕ → List ℕ → ℕ → ℕ → Type 0
Exact P w Chosen es width b i c = Follows (λ r. Knows P width b r c) w Chosen es i

-- what it is to be after an act's own part
abbrev pub Owned : (ℕ → Type 0) → Filling → (Event → List Event → Type 0) → Type 0 → List Event → Event → ℕ → ℕ → List ℕ → ℕ → ℕ → Type 0
Owned P w Chosen Stays es x t width b i c = OwnPart (λ r. Knows P width b r c) w Chosen Stays es x t i

-- the row of what has acted is exact if it says which tasks have
pub record ExactActed (w : Filling) (es : List Event) (width : ℕ) (b : List ℕ) : Type 0 where
  pub flags : (t : ℕ) → t < tasks → (0 < cell width b acted_row t) ↔ Acted w t es

-- Acts

pub exact_act : {P : ℕ → Type 0} {j : ℕ → ℕ → ℕ} {w : Filling} {Chosen : Event → List Event → Type 0} {Stays : Type 0} {es : List Event} {o : Op} {t n width i c : ℕ} {b : List ℕ} →
    Joins j P → ((e : Event) (after : List Event) → Chosen e (after ++ (act o t n ∷ [])) ↔ (Stays × Chosen e after)) →
    ((u : ℕ) → Releases (act o t n) (due u) → (u ≡ t) ⊎ (¬ Acted w u es)) → t < tasks → n < size_of (series o) → c < width →
    Sized width b → ExactActed w (es ++ (act o t n ∷ [])) width b → Ended w Chosen es i → Owned P w Chosen Stays es (act o t n) t width b i c →
    Exact P w Chosen (es ++ (act o t n ∷ [])) width (onward j width (fills w) (kind o) t n b) i c
exact_act {w = w} {es = es} {o = o} {t = t} {n = n} {width = width} {b = b} joins keeps starts ht hn hc sized flagged ended owned =
    follows_act keeps starts ht hn (λ l. (λ e. (flagged.flags n l).0 (raised e), λ a. lt-ltb 0 (cell width b acted_row n) ((flagged.flags n l).1 a))) ended owned
    (λ r. let h : released_row (kind o) t n < hub = rw (released_row_lem o t n) (row_below (released_in o ht hn)) in flow_knows joins (fills w) sized (omega arith) ht hc)
  where
    raised : ltb 0 (cell width b acted_row n) ≡ true → 0 < cell width b acted_row n
    raised e = decided (at_most 1 (cell width b acted_row n)) e
      where
        decided : {p : Bool} → Reflects (1 ≤ cell width b acted_row n) p → p ≡ true → 0 < cell width b acted_row n
        decided (right q) e = q
        decided (wrong g) e = absurd (subst T (sym e) tt)

-- Marks

-- what has come to a node that a mark releases to has come to one that it acquires
released_acquired : {w : Filling} {Chosen : Event → List Event → Type 0} {es : List Event} {i mask : ℕ} (m : Node) → FillerReleases mask m → Came w Chosen es i m →
    (p : Node) × FillerAcquires mask p × Came w Chosen es i p
released_acquired (due t) y d = (due t, acquired_due.1 (released_due.0 y), d)
released_acquired (acted t) y d = (due t, acquired_due.1 (released_acted.0 y), came_acted d)
released_acquired (semaphore s) y d = (semaphore s, acquired_semaphore.1 (released_semaphore.0 y), d)
released_acquired (flag f) y d = (flag f, acquired_flag.1 (released_flag.0 y), d)

-- whose lost records are filled in: nobody's, or those of some task
pub data ProperMask (m : ℕ) : Type 0 where
  nobody : m ≡ 0 → ProperMask m
  somebody : ¬ (m ≡ 0) → (t : ℕ) × Named m t → ProperMask m

-- a mark that names a task acquires every object
acquired_object : {mask : ℕ} → (t : ℕ) × Named mask t → {m : Node} → Object m → FillerAcquires mask m
acquired_object some (a_semaphore h) = acquired_semaphore.1 (h, some)
acquired_object some (a_flag h) = acquired_flag.1 (h, some)

module _ {P : ℕ → Type 0} {w : Filling} {Chosen : Event → List Event → Type 0} {Stays : Type 0} {es : List Event} {width i c : ℕ} {b : List ℕ} (mask : ℕ)
    (keeps : (e : Event) (after : List Event) → Chosen e (after ++ (lost mask ∷ [])) ↔ (Stays × Chosen e after)) (stays : Stays) where
  -- where nobody's lost records are filled in a mark changes nothing
  exact_none : w mask ≡ 0 → Exact P w Chosen es width b i c → Exact P w Chosen (es ++ (lost mask ∷ [])) width b i c
  exact_none none x =
      record {
        cells = λ m r. (λ a. came_mark mask keeps none stays ((x.cells m r).0 a), λ d. (x.cells m r).1 (mark_came mask keeps none d));
        hub = λ f. (λ a. let (m, k, d) = (x.hub f).0 a in (m, k, came_mark mask keeps none stays d), λ d. (x.hub f).1 (d.0, d.1, mark_came mask keeps none d.2));
        ended = ended_mark mask keeps stays x.ended;
      }

  -- where some are it mixes
  module _ {j : ℕ → ℕ → ℕ} (joins : Joins j P) (sized : Sized width b) (wide : tasks ≤ width) (hc : c < width) (some : (t : ℕ) × Named (w mask) t) (asked : T (fills w)) (x : Exact P w Chosen es width b i c) where
    acquired_known : (p : Node) → FillerAcquires (w mask) p → Came w Chosen es i p → Knows P width b hub c ⊎ NamedKnows P width (w mask) b c tasks
    acquired_known (due t) h d = let q = acquired_due.0 h in inr (t, named_task q, named_bit q, (x.cells (due t) (due_in (named_task q))).1 d)
    acquired_known (acted t) h d = absurd (acquired_acted h)
    acquired_known (semaphore s) h d = inl ((x.hub asked).1 (semaphore s, a_semaphore (acquired_semaphore.0 h).0, d))
    acquired_known (flag f) h d = inl ((x.hub asked).1 (flag f, a_flag (acquired_flag.0 h).0, d))

    known_on : {m : Node} → FillerReleases (w mask) m → Knows P width b hub c ⊎ NamedKnows P width (w mask) b c tasks → Onward w Chosen es (lost mask) i m
    known_on y (inl a) = let (p, k, d) = (x.hub asked).0 a in inr (p, d, (acquired_object some k, y))
    known_on y (inr (t, l, q, a)) = inr (due t, (x.cells (due t) (due_in l)).0 a, (acquired_due.1 (bit_named (w mask) t l q), y))

    on_known : {m : Node} → FillerReleases (w mask) m → (Stays × Onward w Chosen es (lost mask) i m) ⊎ (Newly Chosen es (lost mask) i × Releases (lost mask) m) →
        Knows P width b hub c ⊎ NamedKnows P width (w mask) b c tasks
    on_known {m} y (inl (s, inl d)) = let (p, h, e) = released_acquired m y d in acquired_known p h e
    on_known y (inl (s, inr (p, d, (h, z)))) = acquired_known p h d
    on_known y (inr (d, z)) = absurd (no_releases z)

    mixed : (m : Node) → InRange m → Knows P width (mix j width (w mask) b) (row m) c ↔ Came w Chosen (es ++ (lost mask ∷ [])) i m
    mixed m r = decided (by_test (is_released (w mask) (row m)))
      where
        decided : {p : Bool} → Reflects (T (is_released (w mask) (row m))) p → Knows P width (mix j width (w mask) b) (row m) c ↔ Came w Chosen (es ++ (lost mask ∷ [])) i m
        decided (right q) =
            let y = test_released some r q in
            let e = mix_released joins sized (w mask) c wide hc (row m) (row_below r) q in
            (λ a. (came_next es (lost mask) keeps).1 (inl (stays, known_on y (e.0 a))), λ d. e.1 (on_known y ((came_next es (lost mask) keeps).0 d)))
        decided (wrong f) =
            let e = mix_untold joins sized (w mask) c wide hc (row m) (row_below r) f in
            (λ a. (came_next es (lost mask) keeps).1 (inl (stays, inl ((x.cells m r).0 (e.0 a)))), λ d. e.1 ((x.cells m r).1 (same ((came_next es (lost mask) keeps).0 d))))
          where
            same : (Stays × Onward w Chosen es (lost mask) i m) ⊎ (Newly Chosen es (lost mask) i × Releases (lost mask) m) → Came w Chosen es i m
            same (inl (s, inl d)) = d
            same (inl (s, inr (p, d, (h, y)))) = absurd (f (released_test r y))
            same (inr (d, y)) = absurd (no_releases y)

    hub_mixed : Knows P width (mix j width (w mask) b) hub c ↔ ToObject w Chosen (es ++ (lost mask ∷ [])) i
    hub_mixed = (λ a. to (e.0 a), λ d. e.1 (from d.0 d.1 ((came_next es (lost mask) keeps).0 d.2)))
      where
        e : Knows P width (mix j width (w mask) b) hub c ↔ (Knows P width b hub c ⊎ NamedKnows P width (w mask) b c tasks)
        e = mix_hub joins sized (w mask) c wide hc

        to : Knows P width b hub c ⊎ NamedKnows P width (w mask) b c tasks → ToObject w Chosen (es ++ (lost mask ∷ [])) i
        to a = (semaphore 0, a_semaphore (lit< tt), (came_next es (lost mask) keeps).1 (inl (stays, known_on (released_semaphore.1 (lit< tt, some)) a)))

        from : (m : Node) → Object m → (Stays × Onward w Chosen es (lost mask) i m) ⊎ (Newly Chosen es (lost mask) i × Releases (lost mask) m) → Knows P width b hub c ⊎ NamedKnows P width (w mask) b c tasks
        from m k (inl (s, inl d)) = inl ((x.hub asked).1 (m, k, d))
        from m k (inl (s, inr (p, d, (h, y)))) = acquired_known p h d
        from m k (inr (d, y)) = absurd (no_releases y)

    exact_mix : Exact P w Chosen (es ++ (lost mask ∷ [])) width (mix j width (w mask) b) i c
    exact_mix = record { cells = mixed; hub = λ _. hub_mixed; ended = ended_mark mask keeps stays x.ended }

  pub exact_mark : {j : ℕ → ℕ → ℕ} → Joins j P → Sized width b → tasks ≤ width → c < width → (¬ (w mask ≡ 0) → T (fills w)) → ProperMask (w mask) → Exact P w Chosen es width b i c →
      Exact P w Chosen (es ++ (lost mask ∷ [])) width (mark j width (w mask) b) i c
  exact_mark {j} joins sized wide hc asked (nobody e) x = subst (λ (k : ℕ). Exact P w Chosen (es ++ (lost mask ∷ [])) width (mark j width k b) i c) (sym e) (exact_none e x)
  exact_mark joins sized wide hc asked (somebody n some) x = rw (ne_eqb (w mask) 0 n) (exact_mix joins sized wide hc some (asked n) x)

-- What has acted

module _ {w : Filling} {es : List Event} {width : ℕ} {b b' : List ℕ} where
  pub acted_same : ((t : ℕ) → t < tasks → cell width b' acted_row t ≡ cell width b acted_row t) → ExactActed w es width b → ExactActed w es width b'
  acted_same e x = record { flags = λ t h. (λ a. (x.flags t h).0 (rw (e t h) at a), λ a. rw (e t h) ((x.flags t h).1 a)) }

  -- an event after which those have acted who had, and those that a test tells
  acted_next : (y : Event) (p : ℕ → Bool) → ((t : ℕ) → t < tasks → Reflects (ActsAs w t y) (p t)) →
      ((t : ℕ) → t < tasks → cell width b' acted_row t ≡ cond (p t) 1 (cell width b acted_row t)) → ExactActed w es width b → ExactActed w (es ++ (y ∷ [])) width b'
  acted_next y p r e x = record { flags = λ t h. (λ a. to t h (r t h) (rw (e t h) at a), λ a. rw (e t h) (from t h (r t h) (some_snoc es a))) }
    where
      to : (t : ℕ) → t < tasks → {q : Bool} → Reflects (ActsAs w t y) q → 0 < cond q 1 (cell width b acted_row t) → Acted w t (es ++ (y ∷ []))
      to t h (right k) a = snoc_last es y k
      to t h (wrong f) a = snoc_some y ((x.flags t h).0 a)

      from : (t : ℕ) → t < tasks → {q : Bool} → Reflects (ActsAs w t y) q → Acted w t es ⊎ ActsAs w t y → 0 < cond q 1 (cell width b acted_row t)
      from t h (right k) a = lit< tt
      from t h (wrong f) (inl a) = (x.flags t h).1 a
      from t h (wrong f) (inr k) = absurd (f k)

  pub acted_act : (o : Op) (u n : ℕ) → ((t : ℕ) → t < tasks → cell width b' acted_row t ≡ cond (eqb t u) 1 (cell width b acted_row t)) → ExactActed w es width b →
      ExactActed w (es ++ (act o u n ∷ [])) width b'
  acted_act o u n e x = acted_next (act o u n) (λ t. eqb t u) (λ t h. equal t u) e x

pub acted_mark : {w : Filling} {es : List Event} {width : ℕ} {b : List ℕ} (j : ℕ → ℕ → ℕ) (mask : ℕ) → Sized width b → tasks ≤ width → ProperMask (w mask) → ExactActed w es width b →
    ExactActed w (es ++ (lost mask ∷ [])) width (mark j width (w mask) b)
acted_mark {w} {es} {width} {b} j mask sized wide (nobody e) x =
    subst (λ (k : ℕ). ExactActed w (es ++ (lost mask ∷ [])) width (mark j width k b)) (sym e)
    (acted_next (lost mask) (λ t. false) (λ t h. wrong (λ d. nobody_named (subst (λ (k : ℕ). Named k t) e d))) (λ t h. refl) x)
acted_mark {w} j mask sized wide (somebody n some) x =
    rw (ne_eqb (w mask) 0 n)
    (acted_next (lost mask) (bit (w mask)) (λ t h. same_as (bit_named (w mask) t h) named_bit (by_test (bit (w mask) t))) (λ t h. mix_acted sized j (w mask) t wide h) x)

-- Fresh tables

pub fresh_exact : {P : ℕ → Type 0} {w : Filling} {Chosen : Event → List Event → Type 0} {width i c : ℕ} → ¬ P 0 → c < width →
    Exact P w Chosen [] width (replicate (table_rows * width) 0) i c
fresh_exact {width = width} {c = c} n hc =
    record {
      cells = λ m r. (λ a. let h = row_below r in absurd (fresh_none n width (row m) c (omega arith) hc a), λ d. absurd (nowhere d.occurs));
      hub = λ f. (λ a. absurd (fresh_none n width hub c (omega arith) hc a), λ d. absurd (nowhere d.2.occurs));
      ended = record { acting = λ t d. absurd (nowhere d.occurs); joined = λ t a d. absurd (nowhere d.occurs) };
    }

pub fresh_acted : {w : Filling} (width : ℕ) → tasks ≤ width → ExactActed w [] width (replicate (table_rows * width) 0)
fresh_acted width wide = record { flags = λ t h. (λ a. absurd (zero t h a), λ a. absurd (none_acted a)) }
  where
    zero : (t : ℕ) → t < tasks → ¬ (0 < cell width (replicate (table_rows * width) 0) acted_row t)
    zero t h a = let k : 0 < 0 = rw (fresh_cell width acted_row t (omega arith) (omega arith)) at a in omega arith
