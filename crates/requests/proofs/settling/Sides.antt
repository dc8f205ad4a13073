-- Home's records with far's among them: they are the completions, and far's only add paths. Assumes nothing.
use mathlib.Core.Path.{◌≡◌, refl, ap}
use mathlib.Core.Bool.{Bool}
use mathlib.Core.Logic.{◌⊎◌, inl, inr, ⊎_elim}
use mathlib.Core.List.{List, [], ◌∷◌, ◌++◌}
use Prim.Native.Nat.{ℕ, zero, suc, ◌+◌}
use lib.Dec.{T}
use lib.ListN.{length}
use Rattle.theory.specs.order.Recording.{Op, Event, act, Every, no_more, and_more}
use Rattle.theory.specs.order.Path.{HappensBefore}
use Rattle.theory.specs.fillings.Completion.{Filler, filler, Filled, done, keep, fill, Completion, place}
use Rattle.theory.specs.verdicts.Verdict.{Racy}
use Rattle.requests.specs.settling.Forcing.{is_home, HomeRecord, home_record, FarRecord, far_record, HomeFilled, Among, nothing_left, homes, fars, Adds, Sides}
use Rattle.theory.proofs.basics.Reflects.{Reflects, right, wrong, by_test}
use Rattle.theory.proofs.order.Tests.{every_map}
use Rattle.theory.proofs.order.Leads.{Leads, over, via}
use Rattle.theory.proofs.order.Places.{Ends, ends, onward, Occurs, first, next, at_ends, at_occurs, leads_path, path_leads}
use Rattle.theory.proofs.fillings.Between.{ends_behind, occurs_behind, map_filled, place_map}
use Rattle.theory.proofs.verdicts.Demands.{both_act}

-- One record

never_both : {home mask : ℕ} {g : Event} → HomeRecord home mask g → ¬ FarRecord home mask g
never_both (home_record f y) (far_record d n) = n y

side_of_lem : (home : ℕ) {mask : ℕ} {g : Event} → Filler mask g → HomeRecord home mask g ⊎ FarRecord home mask g
side_of_lem home {mask} (filler {o = o} {t = t} {n = n} l d h) = decided (by_test (is_home home t))
  where
    decided : {b : Bool} → Reflects (T (is_home home t)) b → HomeRecord home mask (act o t n) ⊎ FarRecord home mask (act o t n)
    decided (right y) = inl (home_record (filler l d h) y)
    decided (wrong n) = inr (far_record (filler l d h) n)

pub home_filler : {home mask : ℕ} {g : Event} → HomeRecord home mask g → Filler mask g
home_filler (home_record f y) = f

pub far_filler : {home mask : ℕ} {g : Event} → FarRecord home mask g → Filler mask g
far_filler (far_record f n) = f

-- One mark

-- a list of fillers is what home put there, with far's among it
divided : (home : ℕ) {mask : ℕ} {gs : List Event} → Every (Filler mask) gs → (hs : List Event) × Every (HomeRecord home mask) hs × Among home mask hs gs
divided home no_more = ([], no_more, nothing_left)
divided home {mask} (and_more {e = g} {es = gs} x xs) = of (side_of_lem home x) (divided home xs)
  where
    of : HomeRecord home mask g ⊎ FarRecord home mask g → (hs : List Event) × Every (HomeRecord home mask) hs × Among home mask hs gs →
        (hs : List Event) × Every (HomeRecord home mask) hs × Among home mask hs (g ∷ gs)
    of (inl y) (hs, ys, a) = (g ∷ hs, and_more y ys, homes a)
    of (inr n) (hs, ys, a) = (hs, ys, fars n a)

among_fillers : {home mask : ℕ} {hs gs : List Event} → Every (HomeRecord home mask) hs → Among home mask hs gs → Every (Filler mask) gs
among_fillers no_more nothing_left = no_more
among_fillers no_more (fars x a) = and_more (far_filler x) (among_fillers no_more a)
among_fillers (and_more y ys) (homes a) = and_more (home_filler y) (among_fillers ys a)
among_fillers (and_more y ys) (fars x a) = and_more (far_filler x) (among_fillers (and_more y ys) a)

-- far may put nothing
among_none : {home mask : ℕ} (hs : List Event) → Among home mask hs hs
among_none [] = nothing_left
among_none (g ∷ hs) = homes (among_none hs)

-- Each mark

module _ (home : ℕ) where
  completed : {F : ℕ → List Event → Type 0} {es hs fs : List Event} (h : HomeFilled home es hs) (d : Filled F es fs) → Adds home h d → Completion es fs
  completed done done a = done
  completed (keep h) (keep d) a = keep (completed h d a)
  completed (fill y h) (fill x d) a = fill (among_fillers y a.0) (completed h d a.1)

  completed_adds : {F : ℕ → List Event → Type 0} {es hs fs : List Event} (h : HomeFilled home es hs) (d : Filled F es fs) (a : Adds home h d) → Adds home h (completed h d a)
  unfolding completed
  completed_adds done done a = a
  completed_adds (keep h) (keep d) a = completed_adds h d a
  completed_adds (fill y h) (fill x d) a = (a.0, completed_adds h d a.1)

  completed_place : {F : ℕ → List Event → Type 0} {es hs fs : List Event} (h : HomeFilled home es hs) (d : Filled F es fs) (a : Adds home h d) (i : ℕ) → place (completed h d a) i ≡ place d i
  unfolding completed
  completed_place done done a i = refl
  completed_place (keep h) (keep d) a zero = refl
  completed_place (keep h) (keep d) a (suc i) = ap suc (completed_place h d a i)
  completed_place (fill y h) (fill x d) a zero = refl
  completed_place (fill y h) (fill {gs = gs} x d) a (suc i) = ap (λ (j : ℕ). length gs + j) (completed_place h d a.1 i)

  pub home_part : {es fs : List Event} (c : Completion es fs) → (hs : List Event) × (h : HomeFilled home es hs) × Adds home h c
  home_part done = ([], done, tt)
  home_part (keep c) = let (hs, h, a) = home_part c in (_, keep h, a)
  home_part (fill x c) =
      let (gs, y, b) = divided home x in
      let (hs, h, a) = home_part c in
      (gs ++ hs, fill y h, (b, a))

  -- far puts nothing
  pub home_alone : {es hs : List Event} → HomeFilled home es hs → Completion es hs
  home_alone h = map_filled (λ mask gs. every_map (λ g. home_filler)) h

  pub alone_adds : {es hs : List Event} (h : HomeFilled home es hs) → Adds home h (home_alone h)
  unfolding home_alone map_filled
  alone_adds done = tt
  alone_adds (keep h) = alone_adds h
  alone_adds (fill {gs = gs} y h) = (among_none gs, alone_adds h)

  pub alone_place : {es hs : List Event} (h : HomeFilled home es hs) (i : ℕ) → place (home_alone h) i ≡ place h i
  unfolding home_alone
  alone_place h i = place_map (λ mask gs. every_map (λ g. home_filler)) h i

pub sides : Sides
sides =
    record {
      one_of = λ home mask g. (side_of_lem home, ⊎_elim home_filler far_filler);
      not_both = λ home mask g. never_both;
      completes = λ home es hs fs h d a. (completed home h d a, completed_adds home h d a, completed_place home h d a);
      completion = λ home es fs c. home_part home c;
    }

-- Far's records only add paths

-- the one list has what the other has, in its order, and perhaps more
data Within : List Event → List Event → Type 0 where
  empty : Within [] []
  both : {x : Event} {xs ys : List Event} → Within xs ys → Within (x ∷ xs) (x ∷ ys)
  extra : {y : Event} {xs ys : List Event} → Within xs ys → Within xs (y ∷ ys)

leads_within : {e f : Event} {xs ys : List Event} → Within xs ys → Leads e xs f → Leads e ys f
leads_within empty p = p
leads_within (both w) (over p) = over (leads_within w p)
leads_within (both w) (via s p) = via s (leads_within w p)
leads_within (extra w) p = over (leads_within w p)

among_within : {home mask : ℕ} {hs gs xs ys : List Event} → Among home mask hs gs → Within xs ys → Within (hs ++ xs) (gs ++ ys)
among_within nothing_left w = w
among_within (homes a) w = both (among_within a w)
among_within (fars x a) w = extra (among_within a w)

-- what stands before an arrived record, with home's records and with far's too
record BothEnd (hs fs : List Event) (k l : ℕ) (f : Event) : Type 0 where
  before : List Event
  before' : List Event
  to : Ends hs k before f
  to' : Ends fs l before' f
  within : Within before before'

-- and what stands between two of them
record BothBetween (hs fs : List Event) (i j k l : ℕ) (e f : Event) : Type 0 where
  before : List Event
  before' : List Event
  mid : List Event
  mid' : List Event
  to : Ends hs k before f
  to' : Ends fs l before' f
  from : Occurs before i e mid
  from' : Occurs before' j e mid'
  within : Within mid mid'

module _ (home : ℕ) {F : ℕ → List Event → Type 0} where
  adds_end : {es hs fs mid : List Event} {k : ℕ} {o : Op} {t n : ℕ} (h : HomeFilled home es hs) (c : Filled F es fs) → Adds home h c → Ends es k mid (act o t n) →
      BothEnd hs fs (place h k) (place c k) (act o t n)
  adds_end done c a d = elim d [ ]
  adds_end (keep h) (keep c) a ends = record { before = []; before' = []; to = ends; to' = ends; within = empty }
  adds_end (keep h) (keep c) a (onward d) =
      let b = adds_end h c a d in
      record { before = _; before' = _; to = onward b.to; to' = onward b.to'; within = both b.within }
  adds_end (fill {gs = hs} y h) (fill {gs = gs} x c) a (onward d) =
      let b = adds_end h c a.1 d in
      record { before = _; before' = _; to = ends_behind hs b.to; to' = ends_behind gs b.to'; within = among_within a.0 b.within }

  adds_between : {es hs fs before mid : List Event} {i k : ℕ} {o p : Op} {t u n m : ℕ} (h : HomeFilled home es hs) (c : Filled F es fs) → Adds home h c →
      Ends es k before (act p u m) → Occurs before i (act o t n) mid → BothBetween hs fs (place h i) (place c i) (place h k) (place c k) (act o t n) (act p u m)
  adds_between done c a d o = elim d [ ]
  adds_between (keep h) (keep c) a ends o = elim o [ ]
  adds_between (keep h) (keep c) a (onward d) first =
      let b = adds_end h c a d in
      record { before = _; before' = _; mid = _; mid' = _; to = onward b.to; to' = onward b.to'; from = first; from' = first; within = b.within }
  adds_between (keep h) (keep c) a (onward d) (next o) =
      let b = adds_between h c a d o in
      record { before = _; before' = _; mid = _; mid' = _; to = onward b.to; to' = onward b.to'; from = next b.from; from' = next b.from'; within = b.within }
  adds_between (fill {gs = hs} y h) (fill {gs = gs} x c) a (onward d) (next o) =
      let b = adds_between h c a.1 d o in
      record {
        before = _;
        before' = _;
        mid = _;
        mid' = _;
        to = ends_behind hs b.to;
        to' = ends_behind gs b.to';
        from = occurs_behind hs b.from;
        from' = occurs_behind gs b.from';
        within = b.within;
      }

-- a path between arrived records stays, whatever far adds
adds_path : (home : ℕ) {F : ℕ → List Event → Type 0} {es hs fs before mid : List Event} {i k : ℕ} {o p : Op} {t u n m : ℕ} (h : HomeFilled home es hs) (c : Filled F es fs) →
    Adds home h c → Ends es k before (act p u m) → Occurs before i (act o t n) mid → HappensBefore hs (place h i) (place h k) → HappensBefore fs (place c i) (place c k)
adds_path home h c a d o q =
    let b = adds_between home h c a d o in
    leads_path b.to' b.from' (leads_within b.within (path_leads b.to b.from q))

-- so an access that is racy with what far adds is racy where far adds nothing
pub racy_alone : (home : ℕ) {es hs fs : List Event} {k : ℕ} (h : HomeFilled home es hs) (c : Completion es fs) → Adds home h c → Racy c k → Racy (home_alone home h) k
racy_alone home {es} {hs} {fs} {k} h c a (t, i, x, n) = (
  t,
  i,
  x,
  λ q. n (both_act x (λ o p v u w ai ak.
      let (before, d) = at_ends ak in
      let (mid, y) = at_occurs d ai x.before in
      adds_path home h c a d y (rw (alone_place home h i, alone_place home h k) at q))),
)
