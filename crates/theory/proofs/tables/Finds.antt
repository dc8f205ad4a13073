-- The masks of a table that is exact for a recording find what the search finds: the clocks' and the sets'. Assumes nothing.
use mathlib.Core.Path.{◌≡◌, refl}
use mathlib.Core.Bool.{Bool, true, false, cond}
use mathlib.Core.List.{List}
use mathlib.Core.Option.{none, some}
use Prim.Native.Nat.{ℕ, ◌<◌}
use lib.Dec.{T, eqb}
use Rattle.theory.specs.order.Recording.{Op, Event, act, kind, ActsIn, acts, is_access}
use Rattle.theory.specs.fillings.Completion.{rounds, nothing, Filling, filling}
use Rattle.theory.specs.history.History.{latest_number}
use Rattle.theory.specs.tables.Reckonings.{clock_apart, set_apart, clock_mask, set_mask, lowest_task}
use Rattle.theory.specs.verdicts.Search.{judgement, judge, partner}
use Rattle.theory.specs.feeding.Step.{answer_by_tests, answer_by_masks}
use Rattle.theory.specs.feeding.Meaning.{judges, meaning}
use Rattle.theory.specs.order.Limits.{tasks, variables}
use Rattle.theory.proofs.order.Places.{Occurs}
use Rattle.theory.proofs.verdicts.Search.{Candidate}
use Rattle.theory.proofs.tables.ClockTables.{ExactClocks}
use Rattle.theory.proofs.tables.SetTables.{ExactSets}
use Rattle.theory.proofs.history.Slots.{ExactHistory}
use Rattle.theory.proofs.history.Numbers.{Ranged}
use Rattle.theory.proofs.tables.Reckoned.{sound, complete, clock_tells, set_tells}
use Rattle.theory.proofs.tables.Masked.{lowest_found, mask_partner}

-- The masks of an access

-- a candidate's task is one of the sixteen
task_of_lem : {g : ℕ → List Event} {f : Event} {es : List Event} {u i : ℕ} → Ranged es → Candidate g f es u i → u < tasks
task_of_lem {es = es} r c = acting c.apart.against.by c.occurs
  where
    acting : {u i : ℕ} {e : Event} {after : List Event} → ActsIn u e → Occurs es i e after → u < tasks
    acting acts o = (r.in_range_lem _ _ _ _ _ o).0

module _ {w : Filling} {es : List Event} {last : List ℕ} (p : Op) (t v : ℕ) (h : ExactHistory es last) (r : Ranged es) (ap : T (is_access p)) (ht : t < tasks) (hv : v < variables) where
  pub clock_finds : {b : List ℕ} → ExactClocks w es b → lowest_found (latest_number last (kind p) v) (clock_mask b last (kind p) t v) ≡ partner (filling w) (act p t v) 1 es
  clock_finds {b} x =
      mask_partner (clock_apart b last (kind p) t v) (latest_number last (kind p) v) (λ u hu a. sound p (clock_tells p h ht hv hu x) h ap hv hu a)
      (λ u i c. let hu = task_of_lem r c in (hu, complete p (clock_tells p h ht hv hu x) h ap hv hu c))

  pub set_finds : {b : List ℕ} → ExactSets w es b → lowest_found (latest_number last (kind p) v) (set_mask b last (kind p) t v) ≡ partner (filling w) (act p t v) 1 es
  set_finds {b} x =
      mask_partner (set_apart b last (kind p) t v) (latest_number last (kind p) v) (λ u hu a. sound p (set_tells p h ht hv hu x) h ap hv hu a)
      (λ u i c. let hu = task_of_lem r c in (hu, complete p (set_tells p h ht hv hu x) h ap hv hu c))

-- the answer that masks make is that of what they find
answer_found : (a b : Bool) (last : List ℕ) (k on number fm am : ℕ) →
    meaning (answer_by_tests a b last k on number fm am)
    ≡ judges number
    (judgement (cond a none (some (record { task = lowest_task fm; number = latest_number last k on (lowest_task fm) }))) (cond b none (some (record { task = lowest_task am; number = latest_number last k on (lowest_task am) })))).verdict
    (judgement (cond a none (some (record { task = lowest_task fm; number = latest_number last k on (lowest_task fm) }))) (cond b none (some (record { task = lowest_task am; number = latest_number last k on (lowest_task am) })))).partner
answer_found true true last k on number fm am = refl
answer_found true false last k on number fm am = refl
answer_found false true last k on number fm am = refl
answer_found false false last k on number fm am = refl

pub judged_found : (last : List ℕ) (k on number fm am : ℕ) (f : Event) (es : List Event) →
    lowest_found (latest_number last k on) fm ≡ partner rounds f 1 es →
    lowest_found (latest_number last k on) am ≡ partner nothing f 1 es →
    meaning (answer_by_masks last k on number fm am) ≡ judges number (judge es f).verdict (judge es f).partner
unfolding answer_by_masks judge
judged_found last k on number fm am f es e q = rw (← e, ← q) (answer_found (eqb fm 0) (eqb am 0) last k on number fm am)
