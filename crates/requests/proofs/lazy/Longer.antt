-- A recording with one record more: what stands, leads, is walked and cuts short before that record stays as it was. Assumes nothing.
use mathlib.Core.Path.{◌≡◌, refl, sym, subst}
use mathlib.Core.Bool.{Bool}
use mathlib.Core.Logic.{◌↔◌, ◌⊎◌, inl, inr}
use mathlib.Core.List.{List, [], ◌∷◌, ◌++◌}
use Prim.Native.Nat.{ℕ, zero, suc, ◌≤◌, ◌<◌, zero-le, suc-le-suc}
use native.Mathlib.Nat.{le_of_suc-le-suc, not-suc-le-zero}
use native.Mathlib.Omega.{arith}
use lib.ListN.{length, length-append}
use Rattle.theory.specs.order.Recording.{write, Event, act, At, here, there, no_more, ActsIn}
use Rattle.theory.specs.order.Path.{HappensBefore, one, more, Conflict, Empties, Against}
use Rattle.theory.specs.verdicts.Verdict.{Latest}
use Rattle.requests.specs.lazy.Walk.{HandsOver, HandOverAt, ComesTo, Brings, Walks, Counted, none, this, other, ShortCircuit}
use Rattle.theory.proofs.basics.Reflects.{Reflects, right, wrong, at_most}
use Rattle.theory.proofs.order.Places.{Ends, ends, onward, Occurs, at_ends, path_later}
use Rattle.theory.proofs.order.Tests.{some_snoc, snoc_some, snoc_last, every_snoc, snoc_every, Again}
use Rattle.theory.proofs.fillings.Came.{Snoc, old, new, occurs_snoc, occurs_old, occurs_new}
use Rattle.theory.proofs.verdicts.Latest.{Final, final_latest, latest_final, some_after}
use Rattle.theory.proofs.verdicts.Examples.{ends_middle}

-- Places

pub at_old : {es : List Event} {j : ℕ} {e : Event} (x : Event) → At es j e → At (es ++ (x ∷ [])) j e
at_old x here = here
at_old x (there a) = there (at_old x a)

pub at_short : {es : List Event} {j : ℕ} {e : Event} → At es j e → j < length es
at_short here = suc-le-suc zero-le
at_short (there a) = suc-le-suc (at_short a)

pub at_new : (es : List Event) (x : Event) → At (es ++ (x ∷ [])) (length es) x
at_new [] x = here
at_new (d ∷ es) x = there (at_new es x)

pub at_back : (es : List Event) (x : Event) {e : Event} {j : ℕ} → At (es ++ (x ∷ [])) j e → j < length es → At es j e
at_back [] x a h = absurd (not-suc-le-zero h)
at_back (d ∷ es) x here h = here
at_back (d ∷ es) x (there a) h = there (at_back es x a (le_of_suc-le-suc h))

pub at_last : (es : List Event) (x : Event) {e : Event} → At (es ++ (x ∷ [])) (length es) e → e ≡ x
at_last [] x here = refl
at_last (d ∷ es) x (there a) = at_last es x a

longer : (es : List Event) (x : Event) → length (es ++ (x ∷ [])) ≡ suc (length es)
longer es x = omega (arith, length-append es (x ∷ []))

ends_old : {es before : List Event} {k : ℕ} {f : Event} (x : Event) → Ends es k before f → Ends (es ++ (x ∷ [])) k before f
ends_old x ends = ends
ends_old x (onward d) = onward (ends_old x d)

-- Paths

pub path_old : {es : List Event} {i j : ℕ} (x : Event) → HappensBefore es i j → HappensBefore (es ++ (x ∷ [])) i j
path_old x (one s) = one (record { e = s.e; f = s.f; from = at_old x s.from; to = at_old x s.to; later = s.later; step = s.step })
path_old x (more s p) = more (record { e = s.e; f = s.f; from = at_old x s.from; to = at_old x s.to; later = s.later; step = s.step }) (path_old x p)

pub path_before_last : (es : List Event) (x : Event) {i j : ℕ} → HappensBefore (es ++ (x ∷ [])) i j → j < length es → HappensBefore es i j
path_before_last es x (one s) h =
    let l = s.later in
    one (record { e = s.e; f = s.f; from = at_back es x s.from (omega arith); to = at_back es x s.to h; later = l; step = s.step })
path_before_last es x (more s p) h =
    let l = s.later in
    let m = path_later p in
    more (record { e = s.e; f = s.f; from = at_back es x s.from (omega arith); to = at_back es x s.to (omega arith); later = l; step = s.step }) (path_before_last es x p h)

-- Pairs

latest_old : {es : List Event} {t i j : ℕ} (x : Event) → Latest es t i j → Latest (es ++ (x ∷ [])) t i j
latest_old x l = let (before, d) = at_ends l.earlier.to in final_latest (ends_old x d) (latest_final d l)

latest_back : (es : List Event) (x : Event) {t i j : ℕ} → Latest (es ++ (x ∷ [])) t i j → j < length es → Latest es t i j
latest_back es x l h = let (before, d) = at_ends (at_back es x l.earlier.to h) in final_latest d (latest_final (ends_old x d) l)

-- task u's pair with an access f that comes next
pub pair_final : (es : List Event) (f : Event) {u i : ℕ} → Latest (es ++ (f ∷ [])) u i (length es) ↔ Final u f es i
pair_final es f = (latest_final (ends_middle es []), final_latest (ends_middle es []))

pub final_short : {es : List Event} {f : Event} {u i : ℕ} → Final u f es i → i < length es
final_short a = occurs_in a.occurs
  where
    occurs_in : {es after : List Event} {i : ℕ} {e : Event} → Occurs es i e after → i < length es
    occurs_in Occurs.first = suc-le-suc zero-le
    occurs_in (Occurs.next o) = suc-le-suc (occurs_in o)

-- there is one at most
pub final_one : {es : List Event} {f : Event} {u i j : ℕ} → Final u f es i → Final u f es j → i ≡ j
final_one {i = i} {j = j} a b = decided (at_most i j) (at_most j i)
  where
    decided : {p q : Bool} → Reflects (i ≤ j) p → Reflects (j ≤ i) q → i ≡ j
    decided (right h) (right l) = omega arith
    decided (wrong h) l = absurd (b.none (some_after b.occurs a.occurs (omega arith) (a.against.by, a.against.conflict)))
    decided (right h) (wrong l) = absurd (a.none (some_after a.occurs b.occurs (omega arith) (b.against.by, b.against.conflict)))

-- a record after which the pair is another or none
abbrev pub Asked : ℕ → Event → Event → Type 0
Asked u f x = ActsIn u x × Conflict x f

abbrev pub Stays : ℕ → Event → Event → Type 0
Stays u f x = (¬ Asked u f x) × (¬ Empties x f)

-- an event is task u's pair with f as long as nothing after it is
abbrev pub PairOf : ℕ → Event → Event → List Event → Type 0
PairOf u f e after = Against u e after f × (¬ Again u f after)

module _ {u : ℕ} {f : Event} (x : Event) where
  pub pair_keeps : (e : Event) (after : List Event) → PairOf u f e (after ++ (x ∷ [])) ↔ (Stays u f x × PairOf u f e after)
  pair_keeps e after = (to, from)
    where
      to : PairOf u f e (after ++ (x ∷ [])) → Stays u f x × PairOf u f e after
      to (a, n) =
          let (s, l) = every_snoc after a.since in
          (((λ q. n (snoc_last after x q)), l), (record { by = a.by; conflict = a.conflict; since = s }, λ q. n (snoc_some x q)))

      from : Stays u f x × PairOf u f e after → PairOf u f e (after ++ (x ∷ []))
      from ((m, l), (a, n)) = (record { by = a.by; conflict = a.conflict; since = snoc_every x a.since l }, λ q. of (some_snoc after q))
        where
          of : Again u f after ⊎ Asked u f x → ⊥
          of (inl q) = n q
          of (inr q) = m q

  unfoldable pub final_old : {es : List Event} {i : ℕ} → Stays u f x → Final u f es i → Final u f (es ++ (x ∷ [])) i
  final_old s a =
      let (b, n) = (pair_keeps a.x a.after).1 (s, (a.against, a.none)) in
      record { x = a.x; after = a.after ++ (x ∷ []); occurs = occurs_old x a.occurs; against = b; none = n }

  pub final_new : (es : List Event) → Asked u f x → Final u f (es ++ (x ∷ [])) (length es)
  final_new es q = record { x = x; after = []; occurs = occurs_new es; against = record { by = q.0; conflict = q.1; since = no_more }; none = λ s. elim s [ ] }

  pub final_back : (es : List Event) {i : ℕ} → Final u f (es ++ (x ∷ [])) i → (Stays u f x × Final u f es i) ⊎ ((i ≡ length es) × Asked u f x)
  final_back es a = of (occurs_snoc es a.occurs) a.against a.none
    where
      of : {i : ℕ} {e : Event} {after : List Event} → Snoc es x i e after → Against u e after f → ¬ Again u f after → (Stays u f x × Final u f es i) ⊎ ((i ≡ length es) × Asked u f x)
      of (old {e = e} {after = after} o) b n =
          let (s, (c, m)) = (pair_keeps e after).0 (b, n) in
          inl (s, record { x = e; after = after; occurs = o; against = c; none = m })
      of new b n = inr (refl, (b.by, b.conflict))

-- Walks

module _ (es : List Event) (x : Event) where
  hand_over_old : {j : ℕ} → HandOverAt es j → HandOverAt (es ++ (x ∷ [])) j
  hand_over_old h = record { event = h.event; at = at_old x h.at; hands_over_lem = h.hands_over_lem }

  hand_over_back : {j : ℕ} → HandOverAt (es ++ (x ∷ [])) j → j < length es → HandOverAt es j
  hand_over_back h l = record { event = h.event; at = at_back es x h.at l; hands_over_lem = h.hands_over_lem }

  pub brings_old : {t i j : ℕ} → Brings es t i j → Brings (es ++ (x ∷ [])) t i j
  unfolding hand_over_old
  brings_old b = record { hand_over = hand_over_old b.hand_over; path = path_old x b.path; comes_to = b.comes_to }

  pub brings_back : {t i j : ℕ} → Brings (es ++ (x ∷ [])) t i j → j < length es → Brings es t i j
  unfolding hand_over_back
  brings_back b l = record { hand_over = hand_over_back b.hand_over l; path = path_before_last es x b.path l; comes_to = b.comes_to }

  -- a record that brings order stands in the recording, or is the last one
  pub brings_cases : {t i j : ℕ} → Brings (es ++ (x ∷ [])) t i j → Brings es t i j ⊎ ((j ≡ length es) × HandsOver x × ComesTo t x × HappensBefore (es ++ (x ∷ [])) i (length es))
  brings_cases {t} {i} {j} b = decided (at_most (suc j) (length es))
    where
      in_all : j < suc (length es)
      in_all = subst (λ (n : ℕ). j < n) (longer es x) (at_short b.hand_over.at)

      decided : {c : Bool} → Reflects (j < length es) c → Brings es t i j ⊎ ((j ≡ length es) × HandsOver x × ComesTo t x × HappensBefore (es ++ (x ∷ [])) i (length es))
      decided (right l) = inl (brings_back b l)
      decided (wrong n) =
          let e : j ≡ length es = omega (arith, in_all) in
          let q : b.hand_over.event ≡ x = at_last es x (subst (λ (k : ℕ). At (es ++ (x ∷ [])) k b.hand_over.event) e b.hand_over.at) in
          inr (e, subst HandsOver q b.hand_over.hands_over_lem, subst (ComesTo t) q b.comes_to, subst (HappensBefore (es ++ (x ∷ [])) i) e b.path)

  walks_old : {t i j : ℕ} → Walks es t i j → Walks (es ++ (x ∷ [])) t i j
  walks_old w =
      let l = at_short w.hand_over.at in
      record { hand_over = hand_over_old w.hand_over; after = w.after; not_yet = λ m h b. w.not_yet m h (brings_back b (omega arith)) }

  walks_back : {t i j : ℕ} → Walks (es ++ (x ∷ [])) t i j → j < length es → Walks es t i j
  walks_back w l = record { hand_over = hand_over_back w.hand_over l; after = w.after; not_yet = λ m h b. w.not_yet m h (brings_old b) }

  -- the last record is walked where it is one of the kind and none before it brought order
  pub walks_last : {t i : ℕ} → i < length es → HandsOver x → ((j : ℕ) → ¬ Brings es t i j) → Walks (es ++ (x ∷ [])) t i (length es)
  walks_last l h n = record { hand_over = record { event = x; at = at_new es x; hands_over_lem = h }; after = l; not_yet = λ m k b. n m (brings_back b k) }

  pub last_walks : {t i : ℕ} → Walks (es ++ (x ∷ [])) t i (length es) → HandsOver x × ((j : ℕ) → ¬ Brings es t i j)
  last_walks w = (
    subst HandsOver (at_last es x w.hand_over.at) w.hand_over.hands_over_lem,
    λ j b. w.not_yet j (at_short b.hand_over.at) (brings_old b),
  )

  -- what is counted before the last record is counted with it too
  pub counted_old : {t i n c : ℕ} → n ≤ length es → Counted (Walks es t i) n c → Counted (Walks (es ++ (x ∷ [])) t i) n c
  counted_old h none = none
  counted_old h (this d p) = this (counted_old (omega arith) d) (walks_old p)
  counted_old h (other d f) = other (counted_old (omega arith) d) (λ p. f (walks_back p h))

  pub circuit_old : {t v i : ℕ} → ShortCircuit es t v i (length es) → ShortCircuit (es ++ (x ∷ [])) t v i (suc (length es))
  circuit_old c =
      let l = c.before in
      record {
        j = c.j;
        after = c.after;
        before = omega arith;
        writes = at_old x c.writes;
        had_paths = λ u m a. path_old x (c.had_paths u m (latest_back es x a l));
      }

  -- a short circuit is by a write of the recording, or by the last record
  pub circuit_back : {t v i : ℕ} → ShortCircuit (es ++ (x ∷ [])) t v i (suc (length es)) →
      ShortCircuit es t v i (length es) ⊎ ((x ≡ act write t v) × ((u m : ℕ) → Final u x es m → HappensBefore (es ++ (x ∷ [])) m (length es)))
  circuit_back {t} {v} {i} c = decided (at_most (suc c.j) (length es))
    where
      decided : {b : Bool} → Reflects (c.j < length es) b → ShortCircuit es t v i (length es) ⊎ ((x ≡ act write t v) × ((u m : ℕ) → Final u x es m → HappensBefore (es ++ (x ∷ [])) m (length es)))
      decided (right l) =
          inl (record { j = c.j; after = c.after; before = l; writes = at_back es x c.writes l; had_paths = λ u m a. path_before_last es x (c.had_paths u m (latest_old x a)) l })
      decided (wrong n) =
          let h = c.before in
          let e : c.j ≡ length es = omega arith in
          inr (
            sym (at_last es x (subst (λ (k : ℕ). At (es ++ (x ∷ [])) k (act write t v)) e c.writes)),
            λ u m a. subst (HappensBefore (es ++ (x ∷ [])) m) e (c.had_paths u m (subst (Latest (es ++ (x ∷ [])) u m) (sym e) ((pair_final es x).1 a))),
          )

  pub circuit_new : {t v i : ℕ} → i < length es → x ≡ act write t v → ((u m : ℕ) → Final u x es m → HappensBefore (es ++ (x ∷ [])) m (length es)) →
      ShortCircuit (es ++ (x ∷ [])) t v i (suc (length es))
  circuit_new {t} {v} l e p =
      record {
        j = length es;
        after = l;
        before = omega arith;
        writes = subst (λ (y : Event). At (es ++ (x ∷ [])) (length es) y) e (at_new es x);
        had_paths = λ u m a. p u m ((pair_final es x).0 a);
      }

  -- with the last record behind it, a short circuit is what it was
  pub circuit_end : {t v i : ℕ} → ShortCircuit es t v i (length es) ↔ ShortCircuit (es ++ (x ∷ [])) t v i (length es)
  circuit_end = (
    λ c.
        let l = c.before in
        record { j = c.j; after = c.after; before = l; writes = at_old x c.writes; had_paths = λ u m a. path_old x (c.had_paths u m (latest_back es x a l)) },
    λ c.
        let l = c.before in
        record { j = c.j; after = c.after; before = l; writes = at_back es x c.writes l; had_paths = λ u m a. path_before_last es x (c.had_paths u m (latest_old x a)) l },
  )

-- Counts

-- of places that are none of them
pub counted_none : {P : ℕ → Type 0} (n : ℕ) → ((j : ℕ) → j < n → ¬ P j) → Counted P n 0
counted_none zero f = none
counted_none (suc n) f = other (counted_none n (λ j h. f j (omega arith))) (f n (omega arith))

-- fewer places are as P says than as Q says
pub counted_fewer : {P Q : ℕ → Type 0} {n c d : ℕ} → ((j : ℕ) → P j → Q j) → Counted P n c → Counted Q n d → c ≤ d
counted_fewer f none none = zero-le
counted_fewer f (this a p) (this b q) = suc-le-suc (counted_fewer f a b)
counted_fewer f (this a p) (other b q) = absurd (q (f _ p))
counted_fewer f (other a p) (this b q) = let h = counted_fewer f a b in omega arith
counted_fewer f (other a p) (other b q) = counted_fewer f a b
