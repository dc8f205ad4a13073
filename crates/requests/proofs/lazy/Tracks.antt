-- A column of the lazy reckoning tracks one task's pair with an access that comes next: where order from it has come, whether it needs a walk, and
-- what the walk counts. It does so through each kind of record. Assumes nothing.
use mathlib.Core.Path.{◌≡◌, refl, sym, subst}
use mathlib.Core.Bool.{Bool, true, false, cond, not, ◌&&◌, true≢false}
use mathlib.Core.Logic.{◌↔◌, ◌⊎◌, inl, inr}
use mathlib.Core.List.{List, [], ◌∷◌, ◌++◌}
use Prim.Native.Nat.{ℕ, suc, ◌+◌, ◌-◌, ◌<◌, zero-le}
use native.Mathlib.Omega.{arith}
use lib.Dec.{T}
use lib.ListN.{length, get_or, length-append}
use Rattle.theory.specs.order.Limits.{tasks}
use Rattle.theory.specs.order.Recording.{Op, write, Event, act, acts}
use Rattle.theory.specs.order.Path.{HappensBefore}
use Rattle.theory.specs.fillings.Completion.{bit, arrived}
use Rattle.theory.specs.tables.Rows.{hub}
use Rattle.requests.specs.lazy.Walk.{HandsOver, ComesTo, by_act, by_start, Brings, Walks, Counted, this, other, ShortCircuit}
use Rattle.requests.specs.lazy.Fold.{Lazy, word_at}
use Rattle.theory.proofs.basics.Reflects.{Reflects, right, wrong, by_test}
use Rattle.theory.proofs.order.Places.{Occurs, path_later}
use Rattle.theory.proofs.order.Carry.{Node, due, Acquires, Releases, own_next}
use Rattle.theory.proofs.order.Carry as Carry
use Rattle.theory.proofs.order.Ops.{Plain}
use Rattle.theory.proofs.fillings.Reach.{Reach, Flow, reach_next, leads_reach}
use Rattle.theory.proofs.fillings.Came.{Came}
use Rattle.theory.proofs.fillings.HasActed.{Ended}
use Rattle.theory.proofs.history.Numbers.{occurs_same}
use Rattle.theory.proofs.tables.Nodes.{row, due_in, row_below}
use Rattle.theory.proofs.tables.Follows.{Follows}
use Rattle.theory.proofs.verdicts.Latest.{Final}
use Rattle.theory.proofs.feeding.Paths.{path_leads_arrived}
use Rattle.requests.proofs.lazy.Longer.{PairOf, Stays, Asked, final_one, final_old, final_new, final_back, final_short, brings_old, brings_cases, at_short, at_new, walks_last, last_walks, counted_old, counted_none, circuit_old, circuit_back}

-- Definition

-- order from the column's access is said to have come to row r
abbrev pub Has : ℕ → List ℕ → ℕ → Type 0
Has c nodes r = T (bit (word_at nodes r) c)

-- a count n that stands for m walked records, of w in all: it is m once order has come, and before that what there was before the access
abbrev pub StandsFor : Bool → ℕ → ℕ → ℕ → Type 0
StandsFor true n w m = n ≡ m
StandsFor false n w m = n + m ≡ w

-- column c tracks task u's pair with f; t is the acting task and v the variable
pub record Tracks (t v u : ℕ) (f : Event) (c : ℕ) (es : List Event) (s : Lazy) : Type 0 where
  pub pair : T (bit s.walk.pairs c) ↔ ((i : ℕ) × Final u f es i)
  pub follows : (i : ℕ) → Final u f es i → Follows (Has c s.nodes) arrived (PairOf u f) es 0
  pub ended : Ended arrived (PairOf u f) es 0
  pub brought : (i : ℕ) → Final u f es i → Has c s.nodes t ↔ ((j : ℕ) × Brings es t i j)
  pub known : T (bit s.walk.known c) ↔ ((i : ℕ) × Final u f es i × ShortCircuit es t v i (length es))
  pub counts : (i : ℕ) → Final u f es i → (m : ℕ) × Counted (Walks es t i) (length es) m × StandsFor (bit (word_at s.nodes t) c) (get_or s.counts c 0) s.walk.walked m

longer : (es : List Event) (x : Event) → length (es ++ (x ∷ [])) ≡ suc (length es)
longer es x = omega (arith, length-append es (x ∷ []))

-- The pair of a recording

module _ {u i : ℕ} {f : Event} {es : List Event} (a : Final u f es i) where
  came_final : {n : Node} → Came arrived (PairOf u f) es 0 n ↔ Reach arrived a.x a.after n
  came_final {n} = (to, λ r. record { j = i; e = a.x; after = a.after; recent = zero-le; occurs = a.occurs; chosen = (a.against, a.none); reach = r })
    where
      to : Came arrived (PairOf u f) es 0 n → Reach arrived a.x a.after n
      to d =
          let b : Final u f es d.j = record { x = d.e; after = d.after; occurs = d.occurs; against = d.chosen.0; none = d.chosen.1 } in
          occurs_same (λ e after. Reach arrived e after n) a.occurs (subst (λ (k : ℕ). Occurs es k d.e d.after) (sym (final_one a b)) d.occurs) d.reach

  -- a path to a record that comes next
  path_next : (x : Event) → HappensBefore (es ++ (x ∷ [])) i (length es) ↔ ((m : Node) × Reach arrived a.x a.after m × Acquires m x)
  path_next x = (
    λ p. (leads_reach {w = arrived}).0 ((path_leads_arrived a.occurs).0 p),
    λ r. (path_leads_arrived a.occurs).1 ((leads_reach {w = arrived}).1 r),
  )

comes_to : {o : Op} {k n t : ℕ} → Releases (act o k n) (due t) ↔ ComesTo t (act o k n)
comes_to = (to, from)
  where
    to : {o : Op} {k n t : ℕ} → Releases (act o k n) (due t) → ComesTo t (act o k n)
    to own_next = by_act acts
    to Carry.by_start = by_start

    from : {o : Op} {k n t : ℕ} → ComesTo t (act o k n) → Releases (act o k n) (due t)
    from (by_act acts) = own_next
    from by_start = Carry.by_start

-- a path to an act of task t that acquires its own task alone is order that has come to t's next act
pub path_own : {t v u c i : ℕ} {f : Event} {es : List Event} {s : Lazy} {o : Op} (n : ℕ) → t < tasks → Tracks t v u f c es s → Plain o → Final u f es i →
    HappensBefore (es ++ (act o t n ∷ [])) i (length es) ↔ Has c s.nodes t
path_own {t} {i = i} {o = o} n ht y z a = (
  λ p. let (m, r, h) = (path_next a (act o t n)).0 p in ((y.follows i a).cells (due t) (due_in ht)).1 ((came_final a).1 (subst (Reach arrived a.x a.after) (only z h) r)),
  λ h. (path_next a (act o t n)).1 (due t, (came_final a).0 (((y.follows i a).cells (due t) (due_in ht)).0 h), Carry.own),
)
  where
    only : {o : Op} {m : Node} → Plain o → Acquires m (act o t n) → m ≡ due t
    only z Carry.own = refl
    only z Carry.by_take = absurd (true≢false z.not_take)
    only z Carry.by_look = absurd (true≢false z.not_look)
    only z Carry.by_join = absurd (true≢false z.not_join)

-- A record that leaves the pair, and is not walked

-- what the column holds is the same
pub record Untouched (c : ℕ) (s s' : Lazy) : Type 0 where
  pub pairs : bit s'.walk.pairs c ≡ bit s.walk.pairs c
  pub nodes : (r : ℕ) → r < hub → bit (word_at s'.nodes r) c ≡ bit (word_at s.nodes r) c
  pub counts : get_or s'.counts c 0 ≡ get_or s.counts c 0
  pub walked : s'.walk.walked ≡ s.walk.walked

module _ {t v u c : ℕ} {f : Event} {es : List Event} {s : Lazy} (x : Event) (ht : t < tasks) (y : Tracks t v u f c es s) where
  -- a pair that there is with x was one before it
  module _ (st : Stays u f x) where
    was : {i : ℕ} → Final u f (es ++ (x ∷ [])) i → Final u f es i
    was a = of (final_back x es a)
      where
        of : {i : ℕ} → (Stays u f x × Final u f es i) ⊎ ((i ≡ length es) × Asked u f x) → Final u f es i
        of (inl (_, b)) = b
        of (inr (_, q)) = absurd (st.0 q)

    module _ {s' : Lazy} (quiet : ¬ HandsOver x) (same : Untouched c s s') (ended : Ended arrived (PairOf u f) (es ++ (x ∷ [])) 0)
        (follows : (i : ℕ) → Final u f es i → Follows (Has c s.nodes) arrived (PairOf u f) (es ++ (x ∷ [])) 0)
        (known : T (bit s'.walk.known c) ↔ ((i : ℕ) × Final u f es i × ShortCircuit (es ++ (x ∷ [])) t v i (suc (length es)))) where
      not_brought : {i : ℕ} → ((j : ℕ) × Brings (es ++ (x ∷ [])) t i j) → (j : ℕ) × Brings es t i j
      not_brought {i} (j, b) = of (brings_cases es x b)
        where
          of : Brings es t i j ⊎ ((j ≡ length es) × HandsOver x × ComesTo t x × HappensBefore (es ++ (x ∷ [])) i (length es)) → (j : ℕ) × Brings es t i j
          of (inl d) = (j, d)
          of (inr d) = absurd (quiet d.1)

      own : bit (word_at s'.nodes t) c ≡ bit (word_at s.nodes t) c
      own = same.nodes t (omega arith)

      pub tracks_on : Tracks t v u f c (es ++ (x ∷ [])) s'
      tracks_on =
          record {
            pair = (λ p. let (i, a) = y.pair.0 (subst T same.pairs p) in (i, final_old x st a), λ p. subst T (sym same.pairs) (y.pair.1 (p.0, was p.1)));
            follows = λ i a. moved (follows i (was a));
            ended = ended;
            brought =
                λ i a. (
                  λ h. let (j, b) = (y.brought i (was a)).0 (subst T own h) in (j, brings_old es x b),
                  λ b. subst T (sym own) ((y.brought i (was a)).1 (not_brought b)),
                );
            known =
                rw (longer es x)
                (λ k. let (i, a, b) = known.0 k in (i, final_old x st a, b), λ k. known.1 (k.0, was k.1, k.2));
            counts =
                λ i a.
                let (m, d, e) = y.counts i (was a) in
                rw (longer es x, own, same.counts, same.walked)
                (m, other (counted_old es x (omega arith) d) (λ w. quiet (last_walks es x w).0), e);
          }
        where
          moved : Follows (Has c s.nodes) arrived (PairOf u f) (es ++ (x ∷ [])) 0 → Follows (Has c s'.nodes) arrived (PairOf u f) (es ++ (x ∷ [])) 0
          moved z =
              record {
                cells = λ n r. (λ h. (z.cells n r).0 (subst T (same.nodes (row n) (row_below r)) h), λ d. subst T (sym (same.nodes (row n) (row_below r))) ((z.cells n r).1 d));
                hub = λ q. absurd q;
                ended = ended;
              }

    -- A record that is walked

    module _ {o : Op} {k n : ℕ} (s' : Lazy) (is : x ≡ act o k n) (walked : HandsOver x) (hc : (i : ℕ) → Final u f es i → Has c s.nodes t → Has c s'.nodes t)
        (pairs : s'.walk.pairs ≡ s.walk.pairs) (known : s'.walk.known ≡ s.walk.known) (one_more_lem : s'.walk.walked ≡ suc s.walk.walked)
        (counted : get_or s'.counts c 0
        ≡ cond (bit (word_at s'.nodes t) c && not (bit (word_at s.nodes t) c)) (suc s.walk.walked - get_or s.counts c 0) (get_or s.counts c 0))
        (follows : (i : ℕ) → Final u f es i → Follows (Has c s'.nodes) arrived (PairOf u f) (es ++ (x ∷ [])) 0) (ended : Ended arrived (PairOf u f) (es ++ (x ∷ [])) 0) where
      -- order has come to the acting task where it had, and where the record brings it
      come : {i : ℕ} (a : Final u f es i) → Has c s'.nodes t ↔ (((j : ℕ) × Brings es t i j) ⊎ (HappensBefore (es ++ (x ∷ [])) i (length es) × ComesTo t x))
      unfolding final_old
      come {i} a = (
        λ h. to ((reach_next a.after x).0 ((came_final (final_old x st a)).0 (((follows i a).cells (due t) (due_in ht)).0 h))),
        λ b. ((follows i a).cells (due t) (due_in ht)).1 ((came_final (final_old x st a)).1 ((reach_next a.after x).1 (from b))),
      )
        where
          had : Reach arrived a.x a.after (due t) ↔ ((j : ℕ) × Brings es t i j)
          had = (
            λ r. (y.brought i a).0 (((y.follows i a).cells (due t) (due_in ht)).1 ((came_final a).1 r)),
            λ b. (came_final a).0 (((y.follows i a).cells (due t) (due_in ht)).0 ((y.brought i a).1 b)),
          )

          flows : {p : Node} → Flow arrived x p (due t) ↔ (Acquires p x × ComesTo t x)
          flows {p} =
              subst (λ (e : Event). Flow arrived e p (due t) ↔ (Acquires p e × ComesTo t e)) (sym is)
              (λ q. (q.0, comes_to.0 q.1), λ q. (q.0, comes_to.1 q.1))

          to : Reach arrived a.x a.after (due t) ⊎ ((p : Node) × Reach arrived a.x a.after p × Flow arrived x p (due t)) →
              ((j : ℕ) × Brings es t i j) ⊎ (HappensBefore (es ++ (x ∷ [])) i (length es) × ComesTo t x)
          to (inl r) = inl (had.0 r)
          to (inr (p, r, q)) = let (h, d) = flows.0 q in inr ((path_next a x).1 (p, r, h), d)

          from : ((j : ℕ) × Brings es t i j) ⊎ (HappensBefore (es ++ (x ∷ [])) i (length es) × ComesTo t x) →
              Reach arrived a.x a.after (due t) ⊎ ((p : Node) × Reach arrived a.x a.after p × Flow arrived x p (due t))
          from (inl b) = inl (had.1 b)
          from (inr (b, d)) = let (p, r, h) = (path_next a x).0 b in inr (p, r, flows.1 (h, d))

      brought_now : {i : ℕ} (a : Final u f es i) → Has c s'.nodes t ↔ ((j : ℕ) × Brings (es ++ (x ∷ [])) t i j)
      brought_now {i} a = (λ h. to ((come a).0 h), λ b. (come a).1 (from b.0 (brings_cases es x b.1)))
        where
          to : ((j : ℕ) × Brings es t i j) ⊎ (HappensBefore (es ++ (x ∷ [])) i (length es) × ComesTo t x) → (j : ℕ) × Brings (es ++ (x ∷ [])) t i j
          to (inl (j, b)) = (j, brings_old es x b)
          to (inr (p, d)) = (length es, record { hand_over = record { event = x; at = at_new es x; hands_over_lem = walked }; path = p; comes_to = d })

          from : (j : ℕ) → Brings es t i j ⊎ ((j ≡ length es) × HandsOver x × ComesTo t x × HappensBefore (es ++ (x ∷ [])) i (length es)) →
              ((j : ℕ) × Brings es t i j) ⊎ (HappensBefore (es ++ (x ∷ [])) i (length es) × ComesTo t x)
          from j (inl b) = inl (j, b)
          from j (inr (e, h, d, p)) = inr (p, d)

      counts_now : {i : ℕ} (a : Final u f es i) →
          (m : ℕ) × Counted (Walks (es ++ (x ∷ [])) t i) (suc (length es)) m × StandsFor (bit (word_at s'.nodes t) c) (get_or s'.counts c 0) (suc s.walk.walked) m
      counts_now {i} a = let (m, d, e) = y.counts i a in rw counted (decided m d e (by_test (bit (word_at s.nodes t) c)) (by_test (bit (word_at s'.nodes t) c)))
        where
          at : i < length es
          at = final_short a

          decided : (m : ℕ) → Counted (Walks es t i) (length es) m → {p q : Bool} →
              StandsFor p (get_or s.counts c 0) s.walk.walked m →
              Reflects (Has c s.nodes t) p → Reflects (Has c s'.nodes t) q →
              (m' : ℕ) × Counted (Walks (es ++ (x ∷ [])) t i) (suc (length es)) m'
              × StandsFor q (cond (q && not p) (suc s.walk.walked - get_or s.counts c 0) (get_or s.counts c 0)) (suc s.walk.walked) m'
          decided m d e (right h) (right h') = (m, other (counted_old es x (omega arith) d) (λ w. let (j, b) = (y.brought i a).0 h in (last_walks es x w).1 j b), e)
          decided m d e (right h) (wrong n) = absurd (n (hc i a h))
          decided m d e (wrong n) (right h) = (suc m, this (counted_old es x (omega arith) d) (walks_last es x at walked (λ j b. n ((y.brought i a).1 (j, b)))), omega arith)
          decided m d e (wrong n) (wrong h) = (suc m, this (counted_old es x (omega arith) d) (walks_last es x at walked (λ j b. n ((y.brought i a).1 (j, b)))), omega arith)

      known_now : (x ≡ act write t v → ⊥) → T (bit s'.walk.known c) ↔ ((i : ℕ) × Final u f (es ++ (x ∷ [])) i × ShortCircuit (es ++ (x ∷ [])) t v i (suc (length es)))
      known_now apart =
          rw known
          (λ h. let (i, a, d) = y.known.0 h in (i, final_old x st a, circuit_old es x d), λ d. y.known.1 (d.0, was d.1, of (circuit_back es x d.2)))
        where
          of : {i : ℕ} → ShortCircuit es t v i (length es) ⊎ ((x ≡ act write t v) × ((u m : ℕ) → Final u x es m → HappensBefore (es ++ (x ∷ [])) m (length es))) →
              ShortCircuit es t v i (length es)
          of (inl d) = d
          of (inr d) = absurd (apart d.0)

      pub tracks_walked : (x ≡ act write t v → ⊥) → Tracks t v u f c (es ++ (x ∷ [])) s'
      tracks_walked apart =
          record {
            pair = rw pairs (λ p. let (i, a) = y.pair.0 p in (i, final_old x st a), λ p. y.pair.1 (p.0, was p.1));
            follows = λ i a. follows i (was a);
            ended = ended;
            brought = λ i a. brought_now (was a);
            known = rw (longer es x) (known_now apart);
            counts = λ i a. rw (longer es x, one_more_lem) (counts_now (was a));
          }

-- A record that the pair is anew, or by which there is none

module _ {t v u c : ℕ} {f : Event} (es : List Event) (x : Event) {s' : Lazy} (ended : Ended arrived (PairOf u f) (es ++ (x ∷ [])) 0) where
  pub tracks_anew : Asked u f x → T (bit s'.walk.pairs c) → ¬ T (bit s'.walk.known c) → ¬ Has c s'.nodes t → get_or s'.counts c 0 ≡ s'.walk.walked →
      Follows (Has c s'.nodes) arrived (PairOf u f) (es ++ (x ∷ [])) 0 → Tracks t v u f c (es ++ (x ∷ [])) s'
  tracks_anew q p k away counted follows =
      record {
        pair = (λ _. (length es, final_new x es q), λ _. p);
        follows = λ i a. follows;
        ended = ended;
        brought = λ i a. (λ h. absurd (away h), λ b. absurd (none i a b.0 (path_later b.1.path) (at_short b.1.hand_over.at)));
        known = (λ h. absurd (k h), λ d. absurd (none d.0 d.1 d.2.j d.2.after d.2.before));
        counts = λ i a. (0, counted_none (length (es ++ (x ∷ []))) (λ j h w. none i a j w.after h), stands (by_test (bit (word_at s'.nodes t) c)));
      }
    where
      place : (i : ℕ) → Final u f (es ++ (x ∷ [])) i → i ≡ length es
      place i a = final_one a (final_new x es q)

      none : (i : ℕ) → Final u f (es ++ (x ∷ [])) i → (j : ℕ) → i < j → j < length (es ++ (x ∷ [])) → ⊥
      none i a j h l = omega (arith, place i a, longer es x)

      stands : {b : Bool} → Reflects (Has c s'.nodes t) b → StandsFor b (get_or s'.counts c 0) s'.walk.walked 0
      stands (right h) = absurd (away h)
      stands (wrong n) = omega (arith, counted)

  pub tracks_none : ((i : ℕ) → ¬ Final u f (es ++ (x ∷ [])) i) → ¬ T (bit s'.walk.pairs c) → ¬ T (bit s'.walk.known c) → Tracks t v u f c (es ++ (x ∷ [])) s'
  tracks_none n p k =
      record {
        pair = (λ h. absurd (p h), λ d. absurd (n d.0 d.1));
        follows = λ i a. absurd (n i a);
        ended = ended;
        brought = λ i a. absurd (n i a);
        known = (λ h. absurd (k h), λ d. absurd (n d.0 d.1));
        counts = λ i a. absurd (n i a);
      }
