-- Only the latest conflicting access of each task matters: its older ones lead to it, so what is apart from them is apart from it.
-- Assumes nothing.
use mathlib.Core.Path.{◌≡◌, refl, sym, ap, subst}
use mathlib.Core.Bool.{Bool}
use mathlib.Core.Logic.{◌↔◌}
use mathlib.Core.List.{List, [], ◌∷◌}
use Prim.Native.Nat.{ℕ, zero, suc, ◌-◌, ◌≤◌, ◌<◌}
use lib.ListN.{take}
use native.Mathlib.Nat.{le_of_suc-le-suc, not-suc-le-zero}
use native.Mathlib.Omega.{arith}
use Rattle.theory.specs.order.Recording.{Event, At, Every, and_more, ActsIn, acts}
use Rattle.theory.specs.order.Path.{Step, same_task, HappensBefore, one, more, Conflict, Against}
use Rattle.theory.specs.fillings.Completion.{Completion, place}
use Rattle.theory.specs.verdicts.Verdict.{between, Earlier, Latest, Racy, Unordered}
use Rattle.theory.proofs.basics.Reflects.{Reflects, right, wrong, equal, at_most}
use Rattle.theory.proofs.order.Places.{Ends, ends, onward, Occurs, first, next, at_ends, ends_at, at_occurs, occurs_at, occurs_before, to_last}
use Rattle.theory.proofs.fillings.Bounds.{path_survives}
use Rattle.theory.proofs.order.Tests.{Some, this, further, Again, again_test}

-- Events of a list by their places

pub some_at : {P : Event → Type 0} {es after : List Event} {j : ℕ} {x : Event} → Occurs es j x after → P x → Some P es
some_at first p = this p
some_at (next o) p = further (some_at o p)

pub some_after : {P : Event → Type 0} {es after after' : List Event} {i j : ℕ} {e x : Event} → Occurs es i e after → Occurs es j x after' → i < j → P x → Some P after
some_after first first h p = absurd (not-suc-le-zero h)
some_after first (next q) h p = some_at q p
some_after (next o) first h p = absurd (not-suc-le-zero h)
some_after (next o) (next q) h p = some_after o q (le_of_suc-le-suc h) p

pub some_occurs : {P : Event → Type 0} {es : List Event} → Some P es → (j : ℕ) × (x : Event) × (after : List Event) × Occurs es j x after × P x
some_occurs (this p) = (zero, _, _, first, p)
some_occurs (further s) = let (j, x, after, o, p) = some_occurs s in (suc j, x, after, next o, p)

pub occurs_after : {es after after' : List Event} {i j : ℕ} {e x : Event} → Occurs es i e after → Occurs after j x after' → (k : ℕ) × (i < k) × Occurs es k x after'
occurs_after {j = j} first q = (suc j, omega arith, next q)
occurs_after (next o) q = let (k, h, r) = occurs_after o q in (suc k, omega arith, next r)

pub every_after : {P : Event → Type 0} {es after : List Event} {j : ℕ} {x : Event} → Occurs es j x after → Every P es → Every P after
every_after first (and_more p q) = q
every_after (next o) (and_more p q) = every_after o q

-- Earlier accesses by what stands before the access

-- what stands before an access is the list up to its place
ends_take : {es before : List Event} {k : ℕ} {f : Event} → Ends es k before f → take k es ≡ before
ends_take ends = refl
ends_take (onward {x = x} d) = ap (λ (es : List Event). x ∷ es) (ends_take d)

-- what stands between the two is what stands after the one, before the other
between_after : {es before after : List Event} {i k : ℕ} {e f : Event} → Ends es k before f → Occurs before i e after → between es i k ≡ after
between_after ends o = elim o [ ]
between_after (onward {k = k} d) first = let e : suc k - 1 ≡ k = omega arith in rw e (ends_take d)
between_after (onward {k = k} d) (next {i = i} o) = let e : suc k - suc (suc i) ≡ k - suc i = omega arith in rw e (between_after d o)

pub earlier_occurs : {es before : List Event} {t i k : ℕ} {f : Event} → Ends es k before f → Earlier es t i k →
    (e : Event) × (after : List Event) × Occurs before i e after × Against t e after f
earlier_occurs {t = t} {f = f} d a =
    let (after, o) = at_occurs d a.from a.before in
    (a.e, after, o, subst (λ (mid : List Event). Against t a.e mid f) (between_after d o) (to_last (Against t a.e _) d a.to a.against))

pub occurs_earlier : {es before after : List Event} {t i k : ℕ} {e f : Event} → Ends es k before f → Occurs before i e after → Against t e after f → Earlier es t i k
occurs_earlier {t = t} {e = e} {f = f} d o a =
    record {
      e = e;
      f = f;
      from = occurs_at d o;
      to = ends_at d;
      before = occurs_before d o;
      against = subst (λ (mid : List Event). Against t e mid f) (sym (between_after d o)) a;
    }

-- The latest by what stands after it

-- x stands at place i of the list, an access of task t that f is held against, and none such stands after it
pub record Final (t : ℕ) (f : Event) (es : List Event) (i : ℕ) : Type 0 where
  pub x : Event
  pub after : List Event
  pub occurs : Occurs es i x after
  pub against : Against t x after f
  pub none : ¬ Again t f after

-- an access that conflicts and stands after one that counts, counts as well
pub against_later : {t j : ℕ} {e x f : Event} {after after' : List Event} → Against t e after f → Occurs after j x after' → ActsIn t x × Conflict x f → Against t x after' f
against_later a o p = record { by = p.0; conflict = p.1; since = every_after o a.since }

module _ {es before : List Event} {t k : ℕ} {f : Event} (d : Ends es k before f) where
  pub final_latest : {i : ℕ} → Final t f before i → Latest es t i k
  final_latest {i} a = record { earlier = occurs_earlier d a.occurs a.against; latest = λ j b. decided j b (at_most j i) }
    where
      decided : (j : ℕ) {c : Bool} → Earlier es t j k → Reflects (j ≤ i) c → j ≤ i
      decided j b (right h) = h
      decided j b (wrong n) = let (x, after', q, p) = earlier_occurs d b in absurd (a.none (some_after a.occurs q (omega arith) (p.by, p.conflict)))

  pub latest_final : {i : ℕ} → Latest es t i k → Final t f before i
  latest_final {i} a =
      let (e, after, o, p) = earlier_occurs d a.earlier in
      record { x = e; after = after; occurs = o; against = p; none = λ s. nothing_after o p (some_occurs s) }
    where
      nothing_after : {e : Event} {after : List Event} → Occurs before i e after → Against t e after f →
          (j : ℕ) × (x : Event) × (after' : List Event) × Occurs after j x after' × (ActsIn t x × Conflict x f) → ⊥
      nothing_after o p (j, x, after', q, r) =
          let (j', h, s) = occurs_after o q in
          let l = a.latest j' (occurs_earlier d s (against_later p q r)) in
          omega arith

-- where there is one, there is a last one
final_next : {t i : ℕ} {e f : Event} {es : List Event} → Final t f es i → Final t f (e ∷ es) (suc i)
final_next a = record { x = a.x; after = a.after; occurs = next a.occurs; against = a.against; none = a.none }

final_exists : {t i : ℕ} {e f : Event} (es : List Event) {after : List Event} → Occurs es i e after → Against t e after f → (j : ℕ) × Final t f es j
final_exists [] o a = elim o [ ]
final_exists (e ∷ es) (next o) a = let (j, l) = final_exists es o a in (suc j, final_next l)
final_exists {t} {f = f} (e ∷ es) first a = decided (again_test t f es) (λ i x after o b. final_exists es o b)
  where
    decided : {b : Bool} → Reflects (Again t f es) b → ((i : ℕ) (x : Event) (after : List Event) → Occurs es i x after → Against t x after f → (j : ℕ) × Final t f es j) →
        (j : ℕ) × Final t f (e ∷ es) j
    decided (right s) below = let (j, x, after', q, p) = some_occurs s in let (k, l) = below j x after' q (against_later a q p) in (suc k, final_next l)
    decided (wrong n) below = (zero, record { x = e; after = es; occurs = first; against = a; none = n })

pub latest_exists : {es : List Event} {t i k : ℕ} → Earlier es t i k → (j : ℕ) × Latest es t j k
latest_exists {t = t} a =
    let (before, d) = at_ends a.to in
    let (e, after, o, p) = earlier_occurs d a in
    let (j, l) = final_exists {f = a.f} before o p in
    (j, final_latest d l)

-- Only the latest matters

pub path_then : {es : List Event} {i j k : ℕ} → HappensBefore es i j → HappensBefore es j k → HappensBefore es i k
path_then (one s) q = more s q
path_then (more s p) q = more s (path_then p q)

-- an older access of a task leads to its newer ones
older_leads : {es : List Event} {t i j k : ℕ} → Earlier es t i k → Earlier es t j k → i < j → HappensBefore es i j
older_leads a b h = one (record { e = a.e; f = b.e; from = a.from; to = b.from; later = h; step = same a.against.by b.against.by })
  where
    same : {t : ℕ} {e f : Event} → ActsIn t e → ActsIn t f → Step e f
    same acts acts = same_task

-- `Ordered` says which accesses are ordered before the one at k; whatever leads to an ordered one is ordered
pub latest_apart : {es : List Event} {t i k : ℕ} (Ordered : ℕ → Type 0) →
    ((i j : ℕ) → Earlier es t i k → Earlier es t j k → HappensBefore es i j → Ordered j → Ordered i) →
    Earlier es t i k → ¬ Ordered i → (j : ℕ) × Latest es t j k × (¬ Ordered j)
latest_apart {es} {t} {i} {k} Ordered back a n =
    let (j, l) = latest_exists a in
    (j, l, λ o. n (decided j l o (equal i j)))
  where
    decided : (j : ℕ) → Latest es t j k → Ordered j → {b : Bool} → Reflects (i ≡ j) b → Ordered i
    decided j l o (right e) = subst Ordered (sym e) o
    decided j l o (wrong n) = let h = l.latest i a in back i j a l.earlier (older_leads a l.earlier (omega arith)) o

-- as it arrived
pub latest_as_arrived : {es : List Event} {k : ℕ} → Unordered es k ↔ ((t : ℕ) × (i : ℕ) × Latest es t i k × (¬ HappensBefore es i k))
latest_as_arrived {es} {k} = (
  λ u. let (j, l, n) = latest_apart (λ i. HappensBefore es i k) (λ i j a b. path_then) u.2 u.3 in (u.0, j, l, n),
  λ l. (l.0, l.1, l.2.earlier, l.3),
)

-- in each completion
pub latest_in_completion : {es fs : List Event} {k : ℕ} (c : Completion es fs) →
    Racy c k ↔ ((t : ℕ) × (i : ℕ) × Latest es t i k × (¬ HappensBefore fs (place c i) (place c k)))
latest_in_completion {es} {fs} {k} c = (
  λ u.
      let (j, l, n) = latest_apart (λ i. HappensBefore fs (place c i) (place c k)) (λ i j a b p q. path_then (survives a b p) q) u.2 u.3 in
      (u.0, j, l, n),
  λ l. (l.0, l.1, l.2.earlier, l.3),
)
  where
    survives : {t i j : ℕ} → Earlier es t i k → Earlier es t j k → HappensBefore es i j → HappensBefore fs (place c i) (place c j)
    survives a b = moved a.from a.against.by b.from b.against.by
      where
        moved : {t i j : ℕ} {e f : Event} → At es i e → ActsIn t e → At es j f → ActsIn t f → HappensBefore es i j → HappensBefore fs (place c i) (place c j)
        moved x acts y acts = path_survives c x y
