-- Arrived records in a filled list: where two of them stand, and what stands between them there. Assumes nothing.
use mathlib.Core.Logic.{◌↔◌}
use mathlib.Core.Path.{◌≡◌, refl, ap}
use mathlib.Core.List.{List, [], ◌∷◌, ◌++◌}
use Prim.Native.Nat.{ℕ, zero, suc, ◌+◌, ◌≤◌, zero-le, suc-le-suc}
use native.Mathlib.Nat.{le_of_suc-le-suc, not-suc-le-zero, zero-add, suc-add}
use native.Mathlib.Omega.{arith}
use lib.ListN.{length, take, length-append}
use Rattle.theory.specs.order.Recording.{Every, Op, Event, act, At, here, there}
use Rattle.theory.specs.order.Path.{HappensBefore}
use Rattle.theory.specs.fillings.Completion.{Filler, Filled, done, keep, fill, Completion, place, fill_with}
use Rattle.theory.proofs.order.Leads.{Leads, Is, is, filled_is, filled_with}
use Rattle.theory.proofs.order.Places.{Ends, ends, onward, ends_at, Occurs, first, next, occurs_at, leads_path, path_leads}

-- What stands between

pub ends_behind : {es before : List Event} {k : ℕ} {f : Event} (gs : List Event) → Ends es k before f → Ends (gs ++ es) (length gs + k) (gs ++ before) f
ends_behind [] d = rw zero-add d
ends_behind (g ∷ gs) d = rw suc-add (onward (ends_behind gs d))

pub occurs_behind : {es after : List Event} {i : ℕ} {e : Event} (gs : List Event) → Occurs es i e after → Occurs (gs ++ es) (length gs + i) e after
occurs_behind [] o = rw zero-add o
occurs_behind (g ∷ gs) o = rw suc-add (next (occurs_behind gs o))

ends_filled : {F : ℕ → List Event → Type 0} {es fs mid : List Event} {k : ℕ} {o : Op} {t n : ℕ} (c : Filled F es fs) → Ends es k mid (act o t n) →
    (mid' : List Event) × Ends fs (place c k) mid' (act o t n) × Filled F mid mid'
ends_filled done d = elim d [ ]
ends_filled (keep c) ends = ([], ends, done)
ends_filled (keep c) (onward d) = let (mid', d', c') = ends_filled c d in (_, onward d', keep c')
ends_filled (fill {gs = gs} x c) (onward d) = let (mid', d', c') = ends_filled c d in (gs ++ mid', ends_behind gs d', fill x c')

-- `FilledBetween F fs i k e f mid`: the filled list fs has e at place i and f at place k, and between them mid, filled in too
pub record FilledBetween (F : ℕ → List Event → Type 0) (fs : List Event) (i k : ℕ) (e f : Event) (mid : List Event) : Type 0 where
  pub before' : List Event
  pub mid' : List Event
  pub to : Ends fs k before' f
  pub from : Occurs before' i e mid'
  pub filled : Filled F mid mid'

pub filled_between : {F : ℕ → List Event → Type 0} {es fs before mid : List Event} {i k : ℕ} {o p : Op} {t u n m : ℕ} (c : Filled F es fs) →
    Ends es k before (act p u m) → Occurs before i (act o t n) mid → FilledBetween F fs (place c i) (place c k) (act o t n) (act p u m) mid
filled_between done d o = elim d [ ]
filled_between (keep c) ends o = elim o [ ]
filled_between (keep c) (onward d) first =
    let (mid', d', c') = ends_filled c d in
    record { before' = _; mid' = mid'; to = onward d'; from = first; filled = c' }
filled_between (keep c) (onward d) (next o) =
    let b = filled_between c d o in
    record { before' = _; mid' = b.mid'; to = onward b.to; from = next b.from; filled = b.filled }
filled_between (fill {gs = gs} x c) (onward d) (next o) =
    let b = filled_between c d o in
    record { before' = gs ++ b.before'; mid' = b.mid'; to = ends_behind gs b.to; from = occurs_behind gs b.from; filled = b.filled }

-- Completions by a function

unfoldable pub map_filled : {F G : ℕ → List Event → Type 0} {es fs : List Event} → ((mask : ℕ) (gs : List Event) → F mask gs → G mask gs) → Filled F es fs → Filled G es fs
map_filled h done = done
map_filled h (keep c) = keep (map_filled h c)
map_filled h (fill x c) = fill (h _ _ x) (map_filled h c)

pub place_map : {F G : ℕ → List Event → Type 0} {es fs : List Event} (h : (mask : ℕ) (gs : List Event) → F mask gs → G mask gs) (c : Filled F es fs) (i : ℕ) →
    place (map_filled h c) i ≡ place c i
unfolding map_filled
place_map h done i = refl
place_map h (keep c) zero = refl
place_map h (keep c) (suc i) = ap suc (place_map h c i)
place_map h (fill x c) zero = refl
place_map h (fill {gs = gs} x c) (suc i) = ap (λ (j : ℕ). length gs + j) (place_map h c i)

-- what stands between two arrived records where g fills each mark is what stood between them, filled in by g
pub with_between : (g : ℕ → List Event) {es before mid : List Event} {i k : ℕ} {o p : Op} {t u n m : ℕ} → Ends es k before (act p u m) → Occurs before i (act o t n) mid →
    HappensBefore (fill_with g es) (place (filled_with g es) i) (place (filled_with g es) k) ↔ Leads (act o t n) (fill_with g mid) (act p u m)
with_between g {es} d o =
    let b = filled_between (filled_with g es) d o in
    (λ q. rw (← filled_is b.filled) (path_leads b.to b.from q), λ q. leads_path b.to b.from (rw (← filled_is b.filled) at q))

-- `g` fills each mark with fillers
module _ (g : ℕ → List Event) (fillers : (mask : ℕ) → Every (Filler mask) (g mask)) where
  allowed : (mask : ℕ) (gs : List Event) → Is g mask gs → Every (Filler mask) gs
  allowed mask gs is = fillers mask

  pub completes : (es : List Event) → Completion es (fill_with g es)
  completes es = map_filled allowed (filled_with g es)

  pub completes_between : {es before mid : List Event} {i k : ℕ} {o p : Op} {t u n m : ℕ} → Ends es k before (act p u m) → Occurs before i (act o t n) mid →
      HappensBefore (fill_with g es) (place (completes es) i) (place (completes es) k) ↔ Leads (act o t n) (fill_with g mid) (act p u m)
  unfolding completes
  completes_between {es} {i = i} {k = k} d o = rw (place_map allowed (filled_with g es) i, place_map allowed (filled_with g es) k) (with_between g d o)

-- Places by what comes before them

-- an arrived record stands behind all that comes before it, filled in
place_behind : {g : ℕ → List Event} {es fs : List Event} {i : ℕ} {e : Event} (c : Filled (Is g) es fs) → At es i e → place c i ≡ length (fill_with g (take i es))
place_behind done a = elim a [ ]
place_behind (keep c) here = refl
place_behind (keep c) (there a) = ap suc (place_behind c a)
place_behind (fill is c) here = refl
place_behind {g} (fill {mask = mask} is c) (there {es = es} {i = i} a) = rw (place_behind c a, length-append (g mask) (fill_with g (take i es)))

-- a path between two of them where g fills each mark
pub filled_path : (g : ℕ → List Event) {es before mid : List Event} {i k : ℕ} {o p : Op} {t u n m : ℕ} → Ends es k before (act p u m) → Occurs before i (act o t n) mid →
    HappensBefore (fill_with g es) (length (fill_with g (take i es))) (length (fill_with g (take k es))) ↔ Leads (act o t n) (fill_with g mid) (act p u m)
filled_path g {es} d o = rw (← place_behind (filled_with g es) (occurs_at d o), ← place_behind (filled_with g es) (ends_at d)) (with_between g d o)

-- Places keep their order

pub place_mono : {F : ℕ → List Event → Type 0} {es fs : List Event} (c : Filled F es fs) (i k : ℕ) → i ≤ k → place c i ≤ place c k
place_mono done i k h = h
place_mono (keep c) zero k h = zero-le
place_mono (keep c) (suc i) zero h = absurd (not-suc-le-zero h)
place_mono (keep c) (suc i) (suc k) h = suc-le-suc (place_mono c i k (le_of_suc-le-suc h))
place_mono (fill x c) zero k h = zero-le
place_mono (fill x c) (suc i) zero h = absurd (not-suc-le-zero h)
place_mono (fill x c) (suc i) (suc k) h = let l = place_mono c i k (le_of_suc-le-suc h) in omega arith
