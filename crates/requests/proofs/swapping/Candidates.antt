-- The tasks that an access is apart from are the same when unrelated neighbours before it are swapped, and when an unrelated record stands before it or
-- does not. Assumes nothing.
use mathlib.Core.Path.{◌≡◌, refl}
use mathlib.Core.Logic.{◌↔◌, ◌⊎◌, inl, inr, ⊎_elim}
use mathlib.Core.List.{List, [], ◌∷◌, ◌++◌}
use Prim.Native.Nat.{ℕ}
use Rattle.theory.specs.order.Recording.{Event, act, lost, Every, and_more, ActsIn}
use Rattle.theory.specs.fillings.Completion.{fill_with}
use Rattle.requests.specs.swapping.Swaps.{Swapped, these, later}
use Rattle.theory.proofs.order.Leads.{Leads, last, over, via}
use Rattle.theory.proofs.order.Tests.{Some, this, further, Again, some_snoc, snoc_some, every_snoc, snoc_every}
use Rattle.theory.proofs.fillings.Came.{Snoc, old, new, occurs_snoc, occurs_old}
use Rattle.theory.proofs.fillings.Reach.{fill_append}
use Rattle.theory.proofs.verdicts.Search.{Apart, Candidate, candidate_first, candidate_next, candidate_cases}
use Rattle.requests.proofs.swapping.Independent.{Independent, TwoActs, two, either_way, no_conflict, empties_nothing, never_empties}

-- Swapped lists

-- the other way round
pub swapped_back : {es es' : List Event} → Swapped Independent es es' → Swapped Independent es' es
swapped_back (these x) = these (either_way x)
swapped_back (later s) = later (swapped_back s)

pub swapped_behind : {es es' : List Event} (gs : List Event) → Swapped Independent es es' → Swapped Independent (gs ++ es) (gs ++ es')
swapped_behind [] s = s
swapped_behind (g ∷ gs) s = later (swapped_behind gs s)

pub swapped_before : {es es' : List Event} (gs : List Event) → Swapped Independent es es' → Swapped Independent (es ++ gs) (es' ++ gs)
swapped_before gs (these x) = these x
swapped_before gs (later s) = later (swapped_before gs s)

-- a swap of a recording is a swap of what is filled in
swapped_filled : (g : ℕ → List Event) {es es' : List Event} → Swapped Independent es es' → Swapped Independent (fill_with g es) (fill_with g es')
swapped_filled g (these {xs = xs} z) = of xs z.both z
  where
    of : {e f : Event} (es : List Event) → TwoActs e f → Independent e f → Swapped Independent (fill_with g (e ∷ (f ∷ es))) (fill_with g (f ∷ (e ∷ es)))
    of es two z = these z
swapped_filled g (later {x = act o t n} s) = later (swapped_filled g s)
swapped_filled g (later {x = lost mask} s) = swapped_behind (g mask) (swapped_filled g s)

-- What holds of the events of a list, and paths, do not see the swap

every_swapped : {P : Event → Type 0} {es es' : List Event} → Swapped Independent es es' → Every P es → Every P es'
every_swapped (these x) (and_more p (and_more q r)) = and_more q (and_more p r)
every_swapped (later s) (and_more p r) = and_more p (every_swapped s r)

some_swapped : {P : Event → Type 0} {es es' : List Event} → Swapped Independent es es' → Some P es → Some P es'
some_swapped (these x) (this p) = further (this p)
some_swapped (these x) (further (this p)) = this p
some_swapped (these x) (further (further r)) = further (further r)
some_swapped (later s) (this p) = this p
some_swapped (later s) (further r) = further (some_swapped s r)

leads_swapped : {e f : Event} {es es' : List Event} → Swapped Independent es es' → Leads e es f → Leads e es' f
leads_swapped (these x) (over (over p)) = over (over p)
leads_swapped (these x) (over (via s p)) = via s (over p)
leads_swapped (these x) (via s (over p)) = over (via s p)
leads_swapped (these x) (via s (via s' p)) = absurd (x.step s')
leads_swapped (later z) (over p) = over (leads_swapped z p)
leads_swapped (later z) (via s p) = via s (leads_swapped z p)

-- An unrelated record behind the first one, or in front of the last one

leads_over : {e d f : Event} {mid : List Event} → Independent e d → Leads e (d ∷ mid) f → Leads e mid f
leads_over x (over p) = p
leads_over x (via s p) = absurd (x.step s)

other_acts : {t : ℕ} {e d : Event} → Independent e d → ActsIn t e → ¬ ActsIn t d
other_acts z = z.actors _

leads_longer : {e f : Event} {mid : List Event} (d : Event) → Leads e mid f → Leads e (mid ++ (d ∷ [])) f
leads_longer d (last s) = over (last s)
leads_longer d (over p) = over (leads_longer d p)
leads_longer d (via s p) = via s (leads_longer d p)

leads_shorter : {e d f : Event} (mid : List Event) → Independent d f → Leads e (mid ++ (d ∷ [])) f → Leads e mid f
leads_shorter [] x (over p) = p
leads_shorter [] x (via s (last s')) = absurd (x.step s')
leads_shorter (y ∷ mid) x (over p) = over (leads_shorter mid x p)
leads_shorter (y ∷ mid) x (via s p) = via s (leads_shorter mid x p)

-- the same with marks filled in
module _ (g : ℕ → List Event) where
  filled_over : {e d f : Event} (mid : List Event) → Independent e d → Leads e (fill_with g (d ∷ mid)) f ↔ Leads e (fill_with g mid) f
  filled_over mid z = of z.both z
    where
      of : {e d f : Event} → TwoActs e d → Independent e d → Leads e (fill_with g (d ∷ mid)) f ↔ Leads e (fill_with g mid) f
      of two z = (leads_over z, over)

  one_filled : {e f : Event} → TwoActs e f → fill_with g (e ∷ []) ≡ e ∷ []
  one_filled two = refl

  filled_longer : {e d f : Event} (mid : List Event) → Independent d f → Leads e (fill_with g mid) f → Leads e (fill_with g (mid ++ (d ∷ []))) f
  filled_longer {d = d} mid z p = rw (fill_append g mid (d ∷ []), one_filled z.both) (leads_longer d p)

  filled_shorter : {e d f : Event} (mid : List Event) → Independent d f → Leads e (fill_with g (mid ++ (d ∷ []))) f → Leads e (fill_with g mid) f
  filled_shorter {d = d} mid z p = leads_shorter (fill_with g mid) z (rw (fill_append g mid (d ∷ []), one_filled z.both) at p)

-- Accesses that f is apart from

module _ {g : ℕ → List Event} {f : Event} where
  apart_swapped : {t : ℕ} {e : Event} {es es' : List Event} → Swapped Independent es es' → Apart g f t e es → Apart g f t e es'
  apart_swapped s a =
      record {
        against = record { by = a.against.by; conflict = a.against.conflict; since = every_swapped s a.against.since };
        none = λ r. a.none (some_swapped (swapped_back s) r);
        unordered = λ p. a.unordered (leads_swapped (swapped_filled g (swapped_back s)) p);
      }

  -- with an unrelated record behind it
  apart_over : {t : ℕ} {e d : Event} {mid : List Event} → Independent e d → Apart g f t e mid → Apart g f t e (d ∷ mid)
  apart_over {t} {e} {d} {mid} x a =
      record {
        against = record { by = a.against.by; conflict = a.against.conflict; since = and_more (empties_nothing x a.against.conflict) a.against.since };
        none = none;
        unordered = λ p. a.unordered ((filled_over g mid x).0 p);
      }
    where
      none : ¬ Again t f (d ∷ mid)
      none (this p) = other_acts x a.against.by p.0
      none (further r) = a.none r

  apart_back : {t : ℕ} {e d : Event} {mid : List Event} → Independent e d → Apart g f t e (d ∷ mid) → Apart g f t e mid
  apart_back {mid = mid} x a =
      record {
        against = record { by = a.against.by; conflict = a.against.conflict; since = rest a.against.since };
        none = λ r. a.none (further r);
        unordered = λ p. a.unordered ((filled_over g mid x).1 p);
      }
    where
      rest : {P : Event → Type 0} {d : Event} → Every P (d ∷ mid) → Every P mid
      rest (and_more p r) = r

  -- with a record that is unrelated to f at the end
  apart_longer : {t : ℕ} {e d : Event} (mid : List Event) → Independent d f → Apart g f t e mid → Apart g f t e (mid ++ (d ∷ []))
  apart_longer {t} {e} {d} mid x a =
      record {
        against = record { by = a.against.by; conflict = a.against.conflict; since = snoc_every d a.against.since (never_empties x a.against.conflict) };
        none = λ r. ⊎_elim a.none (λ p. no_conflict x p.1) (some_snoc mid r);
        unordered = λ p. a.unordered (filled_shorter g mid x p);
      }

  apart_shorter : {t : ℕ} {e d : Event} (mid : List Event) → Independent d f → Apart g f t e (mid ++ (d ∷ [])) → Apart g f t e mid
  apart_shorter {e = e} {d = d} mid x a =
      record {
        against = record { by = a.against.by; conflict = a.against.conflict; since = (every_snoc mid a.against.since).0 };
        none = λ r. a.none (snoc_some d r);
        unordered = λ p. a.unordered (filled_longer g mid x p);
      }

-- Tasks that f is apart from

-- task t has such an access among the events
abbrev pub HasCandidate : (ℕ → List Event) → Event → List Event → ℕ → Type 0
HasCandidate g f es t = (i : ℕ) × Candidate g f es t i

module _ {g : ℕ → List Event} {f : Event} where
  pub candidate_swapped : {t : ℕ} {es es' : List Event} → Swapped Independent es es' → HasCandidate g f es t → HasCandidate g f es' t
  candidate_swapped {t} (these {x = e} {y = d} {xs = xs} x) (i, c) = of (candidate_cases c)
    where
      rest : Apart g f t d xs ⊎ ((j : ℕ) × Candidate g f xs t j) → HasCandidate g f (d ∷ (e ∷ xs)) t
      rest (inl a) = (_, candidate_first (apart_over (either_way x) a))
      rest (inr (j, k)) = (_, candidate_next (candidate_next k))

      of : Apart g f t e (d ∷ xs) ⊎ ((j : ℕ) × Candidate g f (d ∷ xs) t j) → HasCandidate g f (d ∷ (e ∷ xs)) t
      of (inl a) = (_, candidate_next (candidate_first (apart_back x a)))
      of (inr (j, k)) = rest (candidate_cases k)
  candidate_swapped {t} (later {x = e} {xs = es} {ys = es'} s) (i, c) = of (candidate_cases c) (λ k. candidate_swapped s k)
    where
      of : Apart g f t e es ⊎ ((j : ℕ) × Candidate g f es t j) → (HasCandidate g f es t → HasCandidate g f es' t) → HasCandidate g f (e ∷ es') t
      of (inl a) below = (_, candidate_first (apart_swapped s a))
      of (inr k) below = let (j, k') = below k in (_, candidate_next k')

  -- a record that is unrelated to f may stand before it or not
  pub candidate_longer : {t : ℕ} (es : List Event) {d : Event} → Independent d f → HasCandidate g f es t → HasCandidate g f (es ++ (d ∷ [])) t
  candidate_longer es {d} x (i, c) = (i, record { e = c.e; after = c.after ++ (d ∷ []); occurs = occurs_old d c.occurs; apart = apart_longer c.after x c.apart })

  pub candidate_shorter : {t : ℕ} (es : List Event) {d : Event} → Independent d f → HasCandidate g f (es ++ (d ∷ [])) t → HasCandidate g f es t
  candidate_shorter {t} es {d} x (i, c) = of (occurs_snoc es c.occurs) c.apart
    where
      of : {i : ℕ} {e : Event} {after : List Event} → Snoc es d i e after → Apart g f t e after → HasCandidate g f es t
      of (old {after = after} o) a = (_, record { e = _; after = after; occurs = o; apart = apart_shorter after x a })
      of new a = absurd (no_conflict x a.against.conflict)
