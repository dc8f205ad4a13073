-- When home can force Clear. Home's best is the whole round of its named tasks, twice, since any other records of home's have no path that these
-- have not; far's best is nothing, since more records only add paths. So the search over that filling answers. Assumes nothing.
use mathlib.Core.Path.{◌≡◌, refl, sym, subst}
use mathlib.Core.Bool.{Bool, true, false, cond, true≢false}
use mathlib.Core.List.{List}
use mathlib.Core.Logic.{◌↔◌}
use mathlib.Core.Option.{none, some}
use Prim.Native.Nat.{ℕ}
use lib.Dec.{T}
use Rattle.theory.specs.order.Recording.{Op, Event, act, Every, no_more, and_more}
use Rattle.theory.specs.order.Path.{HappensBefore}
use Rattle.theory.specs.fillings.Completion.{bit, Named, Filler, filler, done, keep, fill, Completion, place, fill_with, filling}
use Rattle.theory.specs.verdicts.Verdict.{Earlier, Racy}
use Rattle.theory.specs.verdicts.Demands.{Always, Never, Sometimes, SometimesNot}
use Rattle.theory.specs.verdicts.Search.{Found}
use Rattle.requests.specs.settling.Forcing.{is_home, HomeRecord, home_record, FarRecord, far_record, HomeFilled, Among, nothing_left, homes, fars, Adds, CanForce, CannotForce, Forced}
use Rattle.requests.specs.settling.Fold.{home_only}
use Rattle.requests.specs.settling.Answer.{NoTask, EveryTask, Includes}
use Rattle.theory.proofs.basics.Reflects.{by_test, both, passed, passes}
use Rattle.theory.proofs.order.Tests.{every_map}
use Rattle.theory.proofs.order.Leads.{Leads, Is, is, filled_with}
use Rattle.theory.proofs.order.Places.{Ends, Occurs, at_occurs, path_leads}
use Rattle.theory.proofs.tables.NamedRows.{bit_named, named_bit}
use Rattle.theory.proofs.fillings.Fullest.{named_task, filler_rounds, leads_most}
use Rattle.theory.proofs.fillings.Between.{filled_between, map_filled, place_map, with_between}
use Rattle.theory.proofs.verdicts.Latest.{latest_in_completion}
use Rattle.theory.proofs.verdicts.Demands.{both_act}
use Rattle.theory.proofs.verdicts.Search.{Outcome, outcome_partner, outcome_nobody}
use Rattle.requests.proofs.lazy.Columns.{and_bit}
use Rattle.requests.proofs.settling.Sides.{home_alone, alone_adds, alone_place, racy_alone}

-- Whom a mark names of home's

module _ (home mask : ℕ) {t : ℕ} where
  pub home_named : Named (home_only home mask) t → Named mask t × T (is_home home t)
  home_named d =
      let (b, y) = passed (both (by_test (bit mask t)) (by_test (bit home t))) (subst T (and_bit mask home t) (named_bit d)) in
      (bit_named mask t (named_task d) b, y)

  pub named_home : Named mask t → T (is_home home t) → Named (home_only home mask) t
  named_home d y =
      bit_named (home_only home mask) t (named_task d)
      (subst T (sym (and_bit mask home t)) (passes (both (by_test (bit mask t)) (by_test (bit home t))) (named_bit d, y)))

-- home's records for a mark are the fillers of a mark that names home's alone
home_filler : (home mask : ℕ) (g : Event) → HomeRecord home mask g → Filler (home_only home mask) g
home_filler home mask g (home_record (filler l d h) y) = filler l (named_home home mask d y) h

filler_home : (home mask : ℕ) (g : Event) → Filler (home_only home mask) g → HomeRecord home mask g
filler_home home mask g (filler l d h) = let (m, y) = home_named home mask d in home_record (filler l m h) y

-- Home's best

module _ (home : ℕ) where
  abbrev best : ℕ → List Event
  best = filling (home_only home)

  played : (mask : ℕ) (gs : List Event) → Is best mask gs → Every (HomeRecord home mask) gs
  played mask gs is = every_map (filler_home home mask) (filler_rounds (home_only home mask))

  plays : (es : List Event) → HomeFilled home es (fill_with best es)
  plays es = map_filled played (filled_with best es)

  plays_place : (es : List Event) (i : ℕ) → place (plays es) i ≡ place (filled_with best es) i
  unfolding plays
  plays_place es i = place_map played (filled_with best es) i

  module _ {es before : List Event} {k : ℕ} {p : Op} {u m : ℕ} (d : Ends es k before (act p u m)) where
    -- no path to the access where home plays its best
    abbrev Apart : ℕ → Type 0
    Apart i = ¬ HappensBefore (fill_with best es) (place (filled_with best es) i) (place (filled_with best es) k)

    agree : (i : ℕ) (o : Op) (t n : ℕ) (mid : List Event) → Occurs before i (act o t n) mid → Apart i ↔ (¬ Leads (act o t n) (fill_with best mid) (act p u m))
    agree i o t n mid x = let w = with_between best d x in (λ f l. f (w.1 l), λ f q. f (w.0 q))

    -- any records of home's have at most the paths of its best
    at_most_best : {hs : List Event} {t i : ℕ} (h : HomeFilled home es hs) → Earlier es t i k → HappensBefore hs (place h i) (place h k) →
        HappensBefore (fill_with best es) (place (filled_with best es) i) (place (filled_with best es) k)
    at_most_best h a q = both_act a (λ o p' v u' w ai ak.
        let (mid, x) = at_occurs d ai a.before in
        let b = filled_between h d x in
        (with_between best d x).1 (leads_most (home_only home) (map_filled (λ mask gs. every_map (home_filler home mask)) b.filled) (path_leads b.to b.from q)))

    can : Outcome best (act p u m) 1 before none → CanForce home es k
    can x = (fill_with best es, plays es, λ fs c a r. not_racy (racy_alone home (plays es) c a r))
      where
        not_racy : ¬ Racy (home_alone home (plays es)) k
        not_racy r =
            let (t, j, l, n) = (latest_in_completion (home_alone home (plays es))).0 r in
            outcome_nobody best Apart d agree x t j l
            (λ q. n (rw (alone_place home (plays es) j, alone_place home (plays es) k, plays_place es j, plays_place es k) q))

    cannot : {x : Found} → Outcome best (act p u m) 1 before (some x) → CannotForce home es k
    cannot x hs h =
        let (i, e, q) = outcome_partner best Apart d agree x in (
          hs,
          home_alone home h,
          alone_adds home h,
          (q.task, i, q.latest.earlier, λ z. q.apart (at_most_best h q.latest.earlier (rw (alone_place home h i, alone_place home h k) at z))),
        )

  -- it is never both
  one_of_two : {es : List Event} {k : ℕ} → CanForce home es k → ¬ CannotForce home es k
  one_of_two (hs, h, never) f = let (fs, c, a, r) = f hs h in never fs c a r

  pub forced_yes : {es : List Event} {k : ℕ} → CanForce home es k → Forced home es k true
  forced_yes y = record { yes = (λ e. y, λ _. refl); no = (λ e. absurd (true≢false e), λ n. absurd (one_of_two y n)) }

  pub forced_no : {es : List Event} {k : ℕ} → CannotForce home es k → Forced home es k false
  forced_no n = record { yes = (λ e. absurd (true≢false (sym e)), λ y. absurd (one_of_two y n)); no = (λ e. n, λ _. refl) }

  -- what the search over home's best finds is the answer
  pub forced_by : {es before : List Event} {k : ℕ} {p : Op} {u m : ℕ} → Ends es k before (act p u m) → (b : Bool) (x : Found) →
      Outcome best (act p u m) 1 before (cond b none (some x)) → Forced home es k b
  forced_by d true x y = forced_yes (can d y)
  forced_by d false x y = forced_no (cannot d y)

  -- Verdicts

  pub never_can : {es : List Event} {k : ℕ} → Never es k → CanForce home es k
  never_can {es} n = (fill_with best es, plays es, λ fs c a. n fs c)

  pub always_cannot : {es : List Event} {k : ℕ} → Always es k → CannotForce home es k
  always_cannot a hs h = (hs, home_alone home h, alone_adds home h, a hs (home_alone home h))

  -- The empty set: every completion is far's

  module _ (nobody : NoTask home) where
    no_home : {mask : ℕ} {g : Event} → ¬ HomeRecord home mask g
    no_home (home_record {t = t} (filler l d h) y) = nobody t (named_task d) y

    all_far : {mask : ℕ} {g : Event} → Filler mask g → FarRecord home mask g
    all_far (filler {t = t} l d h) = far_record (filler l d h) (nobody t (named_task d))

    far_among : {mask : ℕ} {hs gs : List Event} → Every (HomeRecord home mask) hs → Every (Filler mask) gs → Among home mask hs gs
    far_among no_more no_more = nothing_left
    far_among no_more (and_more x xs) = fars (all_far x) (far_among no_more xs)
    far_among (and_more y ys) xs = absurd (no_home y)

    far_adds : {es hs fs : List Event} (h : HomeFilled home es hs) (c : Completion es fs) → Adds home h c
    far_adds done done = tt
    far_adds (keep h) (keep c) = far_adds h c
    far_adds (fill y h) (fill x c) = (far_among y x, far_adds h c)

    pub empty_cannot : {es : List Event} {k : ℕ} → Sometimes es k → CannotForce home es k
    empty_cannot (fs, c, r) hs h = (fs, c, far_adds h c, r)

  -- The full set: every completion is home's

  module _ (all : EveryTask home) where
    all_home : {mask : ℕ} (g : Event) → Filler mask g → HomeRecord home mask g
    all_home g (filler {t = t} l d h) = home_record (filler l d h) (all t (named_task d))

    pub full_can : {es : List Event} {k : ℕ} → SometimesNot es k → CanForce home es k
    full_can {es} {k} (fs, c, n) = (fs, h, λ fs' c' a r. n (as_played (racy_alone home h c' a r)))
      where
        h : HomeFilled home es fs
        h = map_filled (λ mask gs. every_map all_home) c

        placed : (i : ℕ) → place (home_alone home h) i ≡ place c i
        placed i = rw (alone_place home h i) (place_map (λ mask gs. every_map all_home) c i)

        as_played : Racy (home_alone home h) k → Racy c k
        as_played (t, i, x, f) = (t, i, x, λ q. f (rw (placed i, placed k) q))

-- A larger home

module _ (home home' : ℕ) (more : Includes home' home) where
  more_home : {mask : ℕ} (g : Event) → HomeRecord home mask g → HomeRecord home' mask g
  more_home g (home_record {t = t} (filler l d h) y) = home_record (filler l d h) (more t (named_task d) y)

  less_far : {mask : ℕ} {g : Event} → FarRecord home' mask g → FarRecord home mask g
  less_far (far_record {t = t} (filler l d h) n) = far_record (filler l d h) (λ y. n (more t (named_task d) y))

  still_among : {mask : ℕ} {hs gs : List Event} → Among home' mask hs gs → Among home mask hs gs
  still_among nothing_left = nothing_left
  still_among (homes a) = homes (still_among a)
  still_among (fars x a) = fars (less_far x) (still_among a)

  raised : {es hs : List Event} → HomeFilled home es hs → HomeFilled home' es hs
  raised h = map_filled (λ mask gs. every_map more_home) h

  still_adds : {es hs fs : List Event} (h : HomeFilled home es hs) (c : Completion es fs) → Adds home' (raised h) c → Adds home h c
  unfolding raised map_filled
  still_adds done done a = tt
  still_adds (keep h) (keep c) a = still_adds h c a
  still_adds (fill y h) (fill x c) a = (still_among a.0, still_adds h c a.1)

  pub larger_can : {es : List Event} {k : ℕ} → CanForce home es k → CanForce home' es k
  larger_can (hs, h, f) = (hs, raised h, λ fs c a. f fs c (still_adds h c a))
