-- The clocks that home alone fills in tell whether home can force Clear, for one home set and for the table of single tasks. Assumes nothing.
use mathlib.Core.Path.{◌≡◌, refl, sym, subst, ◌∙◌}
use mathlib.Core.Bool.{Bool, true, false, not, true≢false}
use mathlib.Core.List.{List, [], ◌∷◌, ◌++◌}
use Prim.Native.Nat.{ℕ, zero, suc, ◌-◌, ◌^◌, ◌<◌, ◌≤◌}
use native.Mathlib.Omega.{arith}
use borrow.Author.Tests.{eq-eqb}
use lib.Bits.{and_le_l}
use lib.Dec.{T, eqb}
use lib.ListN.{length, get_or, set, length-set, replicate, length-replicate, get_or-replicate}
use lib.Seq.{get_or-set_same, get_or-set_other}
use Rattle.theory.specs.declared.record.Record.{Record}
use Rattle.theory.specs.basics.Turns.{turns, any_below}
use Rattle.theory.specs.order.Limits.{tasks, variables}
use Rattle.theory.specs.order.Recording.{Op, Event, act, kind, is_access, event_of, accesses}
use Rattle.theory.specs.fillings.Completion.{bit, Named, filling, fills}
use Rattle.theory.specs.history.History.{latest_number}
use Rattle.theory.specs.tables.Rows.{cell_count}
use Rattle.theory.specs.tables.Reckonings.{clock_mask, lowest_task, next_clocks}
use Rattle.theory.specs.feeding.Step.{next_number}
use Rattle.requests.specs.settling.Forcing.{Forced}
use Rattle.requests.specs.settling.Answer.{EmptyAndFull}
use Rattle.requests.specs.settling.Fold.{home_only, home_of, fresh_homes, homes_after}
use Rattle.theory.proofs.basics.Reflects.{Reflects, right, wrong, by_test, at_most, equal}
use Rattle.theory.proofs.acceptance.Rows.{none_below}
use Rattle.theory.proofs.order.Ops.{event_act, on_series, access_on}
use Rattle.theory.proofs.fillings.Reach.{nobody_named}
use Rattle.theory.proofs.fillings.HasActed.{Restricts}
use Rattle.theory.proofs.tables.NamedRows.{bit_named, named_bit}
use Rattle.theory.proofs.tables.ClockTables.{ExactClocks, fresh_clocks}
use Rattle.theory.proofs.tables.Finds.{clock_finds}
use Rattle.theory.proofs.history.Slots.{ExactHistory}
use Rattle.theory.proofs.history.Numbers.{Ranged}
use Rattle.theory.proofs.verdicts.Search.{Outcome, partner_outcome}
use Rattle.theory.proofs.verdicts.Examples.{ends_middle}
use Rattle.theory.proofs.feeding.Simulation.{some_bit, Shape, an_act, a_mark, Base, clocks_by}
use Rattle.theory.proofs.feeding.Asked.{access_op}
use Rattle.requests.proofs.settling.Forcing.{named_home, home_named, forced_by}

-- Home's tasks of those that a mark names are a filling that stays within the mark

-- a mark that names every task: tried out
every_tried : any_below tasks (λ t. not (bit (2 ^ tasks - 1) t)) ≡ false
unfolding turns
every_tried = refl

every_named : (t : ℕ) → t < tasks → Named (2 ^ tasks - 1) t
every_named t h = bit_named (2 ^ tasks - 1) t h (decided (by_test (bit (2 ^ tasks - 1) t)) (none_below tasks (λ t. not (bit (2 ^ tasks - 1) t)) every_tried t h))
  where
    decided : {b : Bool} → Reflects (T (bit (2 ^ tasks - 1) t)) b → not b ≡ false → T (bit (2 ^ tasks - 1) t)
    decided (right y) e = y
    decided (wrong n) e = absurd (true≢false e)

pub empty_and_full : EmptyAndFull
empty_and_full = (λ t h y. nobody_named (bit_named 0 t h y), λ t h. named_bit (every_named t h))

pub home_restricts : (home : ℕ) → Restricts (home_only home)
home_restricts home =
    record { within = λ mask t d. (home_named home mask d).0; bounded = λ mask h. let l = and_le_l mask home in omega arith; asked = asked }
  where
    decided : {t : ℕ} {b : Bool} → Named (home_only home (2 ^ tasks - 1)) t → Reflects (1 ≤ home_only home (2 ^ tasks - 1)) b → T b
    decided d (right h) = tt
    decided {t} d (wrong n) =
        let e : home_only home (2 ^ tasks - 1) ≡ 0 = omega arith in
        absurd (nobody_named (subst (λ (k : ℕ). Named k t) e d))

    asked : (mask : ℕ) → mask < 2 ^ tasks → ¬ (home_only home mask ≡ 0) → T (fills (home_only home))
    asked mask h n =
        let l = and_le_l mask home in
        let (t, ht, q) = some_bit tasks (home_only home mask) n (omega arith) in
        let d = home_named home mask (bit_named (home_only home mask) t ht (subst T (sym (eq-eqb _ _ q)) tt)) in
        decided (named_home home (2 ^ tasks - 1) (every_named t ht) d.1) (at_most 1 (home_only home (2 ^ tasks - 1)))

-- The mask of an access that comes next

module _ (home : ℕ) {es : List Event} {last b : List ℕ} (x : ExactClocks (home_only home) es b) where
  forced_mask : (o : Op) (t n : ℕ) → ExactHistory es last → Ranged es → T (is_access o) → t < tasks → n < variables →
      Forced home (es ++ (act o t n ∷ [])) (length es) (eqb (clock_mask b last (kind o) t n) 0)
  forced_mask o t n h r a ht hn =
      forced_by home (ends_middle es []) (eqb mask 0) (record { task = lowest_task mask; number = latest_number last (kind o) n (lowest_task mask) })
      (subst (Outcome (filling (home_only home)) (act o t n) 1 es) (sym (clock_finds {w = home_only home} o t n h r a ht hn x)) (partner_outcome 1 es))
    where
      mask : ℕ
      mask = clock_mask b last (kind o) t n

  pub forced_next : {control : List ℕ} {r : Record} → Base es control last → Shape es r → accesses r.kind ≡ true →
      Forced home (es ++ (event_of r ∷ [])) (length es) (eqb (clock_mask b last r.kind r.task r.on) 0)
  forced_next y (an_act o t n a) e =
      let isa = access_op o e in
      rw (event_act o t n) (forced_mask o t n y.history y.ranged isa a.fits.task_fits (access_on o isa (on_series o a.fits)))
  forced_next y (a_mark t n m) e = absurd (true≢false (sym e))

-- A table for each task

pub record HomesExact (es : List Event) (tables : List (List ℕ)) : Type 0 where
  pub count : length tables ≡ tasks
  pub exact : (t : ℕ) → t < tasks → ExactClocks (home_only (home_of t)) es (get_or tables t [])

pub fresh_homes_lem : HomesExact [] fresh_homes
unfolding fresh_homes
fresh_homes_lem =
    record {
      count = length-replicate {A = List ℕ} tasks none;
      exact = λ t h. rw (get_or-replicate {A = List ℕ} tasks t none [] h) fresh_clocks;
    }
  where
    none : List ℕ
    none = replicate (cell_count tasks) 0

-- each place of a list is stored once, by what stands there
module _ {A : Type 0} (f : ℕ → A → A) (d : A) (l : List A) where
  abbrev stored : ℕ → List A
  stored n = turns n (λ t x. set x t (f t (get_or x t d))) l

  stored_length : (n : ℕ) → length (stored n) ≡ length l
  unfolding turns
  stored_length zero = refl
  stored_length (suc n) = length-set (stored n) n (f n (get_or (stored n) n d)) ∙ stored_length n

  stored_not : (n t : ℕ) → n ≤ t → get_or (stored n) t d ≡ get_or l t d
  unfolding turns
  stored_not zero t h = refl
  stored_not (suc n) t h = get_or-set_other (stored n) n t (f n (get_or (stored n) n d)) d (λ e. omega arith) ∙ stored_not n t (omega arith)

  stored_at : (n t : ℕ) → t < n → n ≤ length l → get_or (stored n) t d ≡ f t (get_or l t d)
  unfolding turns
  stored_at zero t h k = absurd (omega arith)
  stored_at (suc n) t h k = decided (equal t n) (λ m. stored_at n t m (omega arith))
    where
      decided : {b : Bool} → Reflects (t ≡ n) b → (t < n → get_or (stored n) t d ≡ f t (get_or l t d)) → get_or (stored (suc n)) t d ≡ f t (get_or l t d)
      decided (right e) ih =
          rw e (get_or-set_same (stored n) n (f n (get_or (stored n) n d)) d (omega (arith, stored_length n)) ∙ rw (stored_not n n (omega arith)))
      decided (wrong m) ih = get_or-set_other (stored n) n t (f n (get_or (stored n) n d)) d m ∙ ih (omega arith)

pub homes_next : {es : List Event} {control last : List ℕ} {tables : List (List ℕ)} {r : Record} → Base es control last → HomesExact es tables → Shape es r →
    HomesExact (es ++ (event_of r ∷ [])) (homes_after r.kind r.task r.on (next_number control) tables)
unfolding homes_after
homes_next {es} {control} {tables = tables} {r = r} b x h =
    record {
      count = stored_length each [] tables tasks ∙ x.count;
      exact = λ t ht. rw (stored_at each [] tables tasks t ht (omega (arith, x.count))) (clocks_by (home_restricts (home_of t)) b (x.exact t ht) h);
    }
  where
    each : ℕ → List ℕ → List ℕ
    each t c = next_clocks (home_only (home_of t)) r.kind r.task r.on (next_number control) c
