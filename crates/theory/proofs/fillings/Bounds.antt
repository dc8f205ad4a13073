-- A path between arrived records survives in every completion, and every such path of any completion is one of the fullest. So the
-- recording as it arrived and the fullest completion, which are completions themselves, bound all others. Assumes nothing.
use mathlib.Core.Logic.{◌↔◌}
use mathlib.Core.List.{List}
use Prim.Native.Nat.{ℕ, suc, ◌<◌}
use native.Mathlib.Omega.{arith}
use Rattle.theory.specs.order.Recording.{Op, Event, act, At}
use Rattle.theory.specs.order.Path.{HappensBefore}
use Rattle.theory.specs.fillings.Completion.{Filled, Completion, place, fill_with, nothing, rounds, fullest, full}
use Rattle.theory.specs.verdicts.Verdict.{ApartInAll, ApartAsArrived}
use Rattle.theory.proofs.basics.Reflects.{Reflects, right, wrong, at_most}
use Rattle.theory.proofs.order.Leads.{Leads, leads_survives, leads_as_arrived, filled_with}
use Rattle.theory.proofs.fillings.Fullest.{filler_rounds, filler_nothing, leads_most}
use Rattle.theory.proofs.order.Places.{Ends, Occurs, at_ends, at_occurs, path_later, leads_path, path_leads}
use Rattle.theory.proofs.fillings.Between.{filled_between, completes, completes_between, place_mono}

-- The two bounds are completions

pub arrived_completes : (es : List Event) → Completion es (fill_with nothing es)
arrived_completes = completes nothing filler_nothing

pub fullest_completes : (es : List Event) → Completion es (fullest es)
fullest_completes = completes rounds filler_rounds

-- Paths in between

pub path_survives : {F : ℕ → List Event → Type 0} {es fs : List Event} {i k : ℕ} {o p : Op} {t u n m : ℕ} (c : Filled F es fs) →
    At es i (act o t n) → At es k (act p u m) → HappensBefore es i k → HappensBefore fs (place c i) (place c k)
path_survives c ai ak p =
    let (before, d) = at_ends ak in
    let (mid, o) = at_occurs d ai (path_later p) in
    let b = filled_between c d o in
    leads_path b.to b.from (leads_survives b.filled (path_leads d o p))

-- a path of a filled list leads to a later record
placed_later : {F : ℕ → List Event → Type 0} {es fs : List Event} {i k : ℕ} (c : Filled F es fs) → HappensBefore fs (place c i) (place c k) → i < k
placed_later {i = i} {k = k} c p = decided (at_most (suc i) k)
  where
    decided : {b : _} → Reflects (i < k) b → i < k
    decided (right h) = h
    decided (wrong n) = let l = path_later p in let m = place_mono c k i (omega arith) in absurd (omega arith)

pub path_most : {es fs : List Event} {i k : ℕ} {o p : Op} {t u n m : ℕ} (c : Completion es fs) → At es i (act o t n) → At es k (act p u m) →
    HappensBefore fs (place c i) (place c k) → HappensBefore (fullest es) (place (fullest_completes es) i) (place (fullest_completes es) k)
unfolding fullest_completes
path_most c ai ak p =
    let (before, d) = at_ends ak in
    let (mid, o) = at_occurs d ai (placed_later c p) in
    let b = filled_between c d o in
    (completes_between rounds filler_rounds d o).1 (leads_most full b.filled (path_leads b.to b.from p))

pub path_arrived : {es : List Event} {i k : ℕ} {o p : Op} {t u n m : ℕ} → At es i (act o t n) → At es k (act p u m) →
    HappensBefore (fill_with nothing es) (place (arrived_completes es) i) (place (arrived_completes es) k) → HappensBefore es i k
unfolding arrived_completes
path_arrived {es} ai ak p =
    let (before, d) = at_ends ak in
    let (mid, o) = at_occurs d ai (placed_later (arrived_completes es) p) in
    leads_path d o (leads_as_arrived (filled_with nothing mid) ((completes_between nothing filler_nothing d o).0 p))

-- The same by what lies between, as it is computed

module _ {es before mid : List Event} {i k : ℕ} {o p : Op} {t u n m : ℕ} (d : Ends es k before (act p u m)) (x : Occurs before i (act o t n) mid) where
  pub apart_as_arrived : ApartAsArrived es k i ↔ (¬ Leads (act o t n) (fill_with nothing mid) (act p u m))
  apart_as_arrived = (
    λ a l. a (leads_path d x (leads_as_arrived (filled_with nothing mid) l)),
    λ a q. a (leads_survives (filled_with nothing mid) (path_leads d x q)),
  )

  pub apart_in_all : ApartInAll es k i ↔ (¬ Leads (act o t n) (fill_with rounds mid) (act p u m))
  unfolding fullest_completes
  apart_in_all = (
    λ a l. a (fullest es) (fullest_completes es) ((completes_between rounds filler_rounds d x).1 l),
    λ a fs c q. let b = filled_between c d x in a (leads_most full b.filled (path_leads b.to b.from q)),
  )
