-- Each reckoning on its own says which tasks' latest conflicting access has no path to an access: just where Order has none, in the
-- recording as it arrived and in the fullest filling. Assumes nothing.
use mathlib.Core.Path.{◌≡◌, refl, sym, ◌∙◌, ap, subst}
use mathlib.Core.Bool.{Bool, false, ◌&&◌, not}
use mathlib.Core.Logic.{◌↔◌, ◌⊎◌, inl, inr, ◌≢◌}
use mathlib.Core.List.{List}
use Prim.Native.Nat.{ℕ, zero, suc, ◌<◌, zero-le, ◌+◌, ◌*◌}
use native.Mathlib.Nat.{le_refl}
use native.Mathlib.Omega.{arith}
use lib.ListN.{get_or}
use borrow.Author.Tests.{le-ltb}
use lib.Dec.{T, ltb}
use Rattle.theory.specs.order.Recording.{Op, Event, act, lost, Every, kind, ActsIn, acts, is_access}
use Rattle.theory.specs.order.Path.{Conflict, conflict}
use Rattle.theory.specs.fillings.Completion.{bit, fill_with, Filling, filling}
use Rattle.theory.specs.tables.Rows.{cell}
use Rattle.theory.specs.history.History.{ask_at, slot, latest_slot, latest_number}
use Rattle.theory.specs.tables.Reckonings.{has_slot, known_slots, clock_apart, set_apart, mask_of, set_mask, clock_mask}
use Rattle.theory.specs.order.Limits.{tasks, variables}
use Rattle.theory.proofs.basics.Reflects.{Reflects, right, wrong, by_test, equal, at_most, fails, both, passed, passes}
use Rattle.theory.proofs.order.Leads.{Leads}
use Rattle.theory.proofs.order.Carry.{Node, due, Acquires, own, own_next, Carry, pass, move, carry_skip, carry_append}
use Rattle.theory.proofs.fillings.Reach.{Reach, leads_reach}
use Rattle.theory.proofs.order.Places.{Occurs, first, next}
use Rattle.theory.proofs.verdicts.Latest.{Final, some_after, some_occurs, occurs_after, every_after}
use Rattle.theory.proofs.verdicts.Search.{Candidate}
use Rattle.theory.proofs.tables.Nodes.{due_in, acquired_node, acquires_cases, plain_acquired}
use Rattle.theory.proofs.fillings.Came.{Came}
use Rattle.theory.proofs.tables.ClockTables.{ExactClocks, OfTask}
use Rattle.theory.proofs.tables.SetTables.{ExactSets, LastInSlot}
use Rattle.theory.proofs.history.Slots.{InSlot, in_slot, Frees, ExactHistory, slot_one}
use Rattle.theory.proofs.history.Numbers.{latest_below, occurs_same, number_final, final_number}
use Rattle.theory.proofs.order.Ops.{Role, a_take, a_give, a_look, a_set, a_start, a_join, plain, role}
use Rattle.theory.proofs.tables.Words.{slot_known}
use Rattle.theory.proofs.tables.Bits.{mask_ext}

-- Paths to an access

-- an access acquires its own task's next act and nothing else
access_acquires : {p : Op} {t v : ℕ} {m : Node} → T (is_access p) → Acquires m (act p t v) → m ≡ due t
access_acquires {p} {t} {v} {m} a h = cases (role p) a (acquires_cases h)
  where
    cases : {p : Op} → Role p → T (is_access p) → (m ≡ due t) ⊎ (m ≡ acquired_node p t v) → m ≡ due t
    cases r a (inl e) = e
    cases (plain x) a (inr e) = e ∙ plain_acquired x t v
    cases a_take a (inr e) = absurd a
    cases a_give a (inr e) = absurd a
    cases a_look a (inr e) = absurd a
    cases a_set a (inr e) = absurd a
    cases a_start a (inr e) = absurd a
    cases a_join a (inr e) = absurd a

module _ {w : Filling} {p : Op} {t v : ℕ} (ap : T (is_access p)) where
  leads_due : {e : Event} {after : List Event} → Leads e (fill_with (filling w) after) (act p t v) → Reach w e after (due t)
  leads_due {e} {after} l = let (m, r, h) = (leads_reach {w = w} {e = e}).0 l in subst (Reach w e after) (access_acquires ap h) r

  due_leads : {e : Event} {after : List Event} → Reach w e after (due t) → Leads e (fill_with (filling w) after) (act p t v)
  due_leads {e} r = (leads_reach {w = w} {e = e}).1 (due t, r, own)

-- what a later act of the task releases to, the earlier one releases to through it
carry_later : {w : Filling} {u j : ℕ} {e : Event} {es after : List Event} {n : Node} → Occurs es j e after → ActsIn u e → Reach w e after n → Carry (due u) (fill_with (filling w) es) n
carry_later first acts r = move own r.released r.carried
carry_later {w} (next {x = act o t m} q) a r = pass (carry_later q a r)
carry_later {w} (next {x = lost mask} q) a r = carry_append (carry_skip (filling w mask)) (carry_later q a r)

reach_older : {w : Filling} {es after after' : List Event} {i j u : ℕ} {e x : Event} {n : Node} → Occurs es i x after → Occurs es j e after' → i < j →
    ActsIn u x → ActsIn u e → Reach w e after' n → Reach w x after n
reach_older first first h a b r = absurd (omega arith)
reach_older {u = u} first (next q) h acts b r = record { n = due u; released = own_next; carried = carry_later q b r }
reach_older (next o) first h a b r = absurd (omega arith)
reach_older (next o) (next q) h a b r = reach_older o q (omega arith) a b r

occurs_there : {es after : List Event} {i j : ℕ} {e : Event} → i ≡ j → Occurs es j e after → Occurs es i e after
occurs_there {es} {after} {e = e} q o = subst (λ (k : ℕ). Occurs es k e after) (sym q) o

-- What a slot keeps

-- a slot of a task keeps accesses of the task
slot_task : (p : Op) {v u : ℕ} {e : Event} → v < variables → u < tasks → InSlot (latest_slot (kind p) v u) e → ActsIn u e
slot_task p {u = u} hv hu (in_slot {o = o} {u = t} {v = n} a h c ht hn e) =
    subst (λ (y : ℕ). ActsIn u (act o y n)) (slot_one {a = ask_at (kind p)} {a' = a} hv hn hu ht e).2 acts

-- order from an act of a task has come to the task's next act
pub acts_reach : {w : Filling} {u : ℕ} {e : Event} {after : List Event} → ActsIn u e → Reach w e after (due u)
acts_reach {u = u} acts = record { n = due u; released = own_next; carried = carry_skip _ }

-- Candidates by the number

-- the latest conflicting access of task u, by its number and place, with or without a path
module _ {w : Filling} {es : List Event} {last : List ℕ} {p : Op} {t v u : ℕ} (h : ExactHistory es last) (ap : T (is_access p)) (hv : v < variables) (hu : u < tasks) (apart : u ≢ t) where
  candidate_of : {i : ℕ} (f : Final u (act p t v) es i) → ¬ Reach w f.x f.after (due t) → Candidate (filling w) (act p t v) es u i
  candidate_of f n =
      record {
        e = f.x;
        after = f.after;
        occurs = f.occurs;
        apart = record { against = f.against; none = f.none; unordered = λ l. n (leads_due ap l) };
      }

final_of : {g : ℕ → List Event} {f : Event} {es : List Event} {u i : ℕ} → Candidate g f es u i → Final u f es i
final_of c = let a = c.apart in record { x = c.e; after = c.after; occurs = c.occurs; against = a.against; none = a.none }

-- a candidate's task is another than the access's
candidate_apart : {g : ℕ → List Event} {p : Op} {t v : ℕ} {es : List Event} {u i : ℕ} → Candidate g (act p t v) es u i → u ≢ t
candidate_apart c = of c.apart.against.by c.apart.against.conflict
  where
    of : {u t v : ℕ} {p : Op} {e : Event} → ActsIn u e → Conflict e (act p t v) → u ≢ t
    of acts (conflict n w) = n

-- The access that a number tells

module _ {es : List Event} {last : List ℕ} (p : Op) {v u i : ℕ} (h : ExactHistory es last) (hv : v < variables) (hu : u < tasks) (n : latest_number last (kind p) v u ≡ suc i) where
  -- since then the slot was not emptied
  told : (e : Event) × (after : List Event) × Occurs es i e after × (InSlot (latest_slot (kind p) v u) e × Every (λ d. ¬ Frees (latest_slot (kind p) v u) d) after)
  told =
      let d = (h.held (latest_slot (kind p) v u) i (latest_below p hv hu)).0 (omega arith) in
      let k =
      (h.held (latest_slot (kind p) v u) d.j (latest_below p hv hu)).1
      (record { j = d.j; e = d.e; after = d.after; recent = le_refl _; occurs = d.occurs; inside = d.inside; since = d.since })
      in
      let l = d.recent in
      let q : i ≡ d.j = omega arith in
      (d.e, d.after, occurs_there q d.occurs, (d.inside, d.since))

  -- it is the one that the slot keeps
  kept_at : {e : Event} {after : List Event} → Occurs es i e after → LastInSlot (latest_slot (kind p) v u) e after
  kept_at {e = here} {after = rest} o = let x = same in (x.0, λ s. later x.1 (some_occurs s))
    where
      same : InSlot (latest_slot (kind p) v u) here × Every (λ d. ¬ Frees (latest_slot (kind p) v u) d) rest
      same = let d = told in occurs_same (λ e after. InSlot (latest_slot (kind p) v u) e × Every (λ d. ¬ Frees (latest_slot (kind p) v u) d) after) o d.2 d.3

      later : Every (λ d. ¬ Frees (latest_slot (kind p) v u) d) rest →
          (j : ℕ) × (e : Event) × (after' : List Event) × Occurs rest j e after' × InSlot (latest_slot (kind p) v u) e → ⊥
      later f (j, e, after', q, a) =
          let (j', m, r) = occurs_after o q in
          let k =
          (h.held (latest_slot (kind p) v u) j' (latest_below p hv hu)).1
          (record { j = j'; e = e; after = after'; recent = le_refl _; occurs = r; inside = a; since = every_after q f })
          in
          omega arith

-- a slot keeps one access
one_kept : {es : List Event} {s i j : ℕ} {e f : Event} {after after' : List Event} → Occurs es i e after → LastInSlot s e after → Occurs es j f after' → LastInSlot s f after' → i ≡ j
one_kept {i = i} {j = j} o k o' k' = decided (equal i j) (at_most (suc i) j)
  where
    decided : {c d : Bool} → Reflects (i ≡ j) c → Reflects (i < j) d → i ≡ j
    decided (right e) l = e
    decided (wrong n) (right l) = absurd (k.1 (some_after o o' l k'.0))
    decided (wrong n) (wrong m) = absurd (k'.1 (some_after o' o (omega arith) k.0))

-- A test that tells whether order from that access has come to task t's next act; where there is none it fails

pub record TellsApart (w : Filling) (es : List Event) (last : List ℕ) (p : Op) (t v u : ℕ) (apart : Bool) : Type 0 where
  pub none : latest_number last (kind p) v u ≡ 0 → apart ≡ false
  pub tells : {i : ℕ} {e : Event} {after : List Event} → Occurs es i e after → ActsIn u e → latest_number last (kind p) v u ≡ suc i → T (not apart) ↔ Reach w e after (due t)

-- such a test finds the candidates, for clocks and for sets
module _ {w : Filling} {es : List Event} {last : List ℕ} {apart : Bool} (p : Op) {t v u : ℕ} (x : TellsApart w es last p t v u apart) (h : ExactHistory es last) (ap : T (is_access p))
    (hv : v < variables) (hu : u < tasks) where
  pub sound : T apart → (i : ℕ) × Candidate (filling w) (act p t v) es u i × (latest_number last (kind p) v u ≡ suc i)
  sound a = found (latest_number last (kind p) v u) refl
    where
      unreached : {i : ℕ} {e : Event} {after : List Event} → Occurs es i e after → ActsIn u e → latest_number last (kind p) v u ≡ suc i → ¬ Reach w e after (due t)
      unreached o b n r = passed (fails (by_test apart)) ((x.tells o b n).1 r) a

      -- order from a task's own has come to its next act
      other : {i : ℕ} → latest_number last (kind p) v u ≡ suc i → u ≢ t
      other n q =
          let (e, after, o, (b, _)) = told p h hv hu n in
          let c = slot_task p hv hu b in
          unreached o c n (subst (λ (y : ℕ). Reach w e after (due y)) q (acts_reach c))

      found : (l : ℕ) → latest_number last (kind p) v u ≡ l → (i : ℕ) × Candidate (filling w) (act p t v) es u i × (latest_number last (kind p) v u ≡ suc i)
      found zero e = absurd (subst T (x.none e) a)
      found (suc i) e =
          let f = number_final h ap hv hu (other e) e in
          (i, candidate_of {w = w} h ap hv hu (other e) f (unreached f.occurs f.against.by e), e)

  pub complete : {i : ℕ} → Candidate (filling w) (act p t v) es u i → T apart
  complete c = decided (by_test apart)
    where
      decided : {b : Bool} → Reflects (T apart) b → T apart
      decided (right a) = a
      decided (wrong f) =
          let n = final_number h ap hv hu (candidate_apart c) (final_of c) in
          absurd (c.apart.unordered (due_leads ap ((x.tells c.occurs c.apart.against.by n).0 (passes (fails (by_test apart)) f))))

-- The tests of the clocks and of the sets are such

module _ {w : Filling} {es : List Event} {b last : List ℕ} (p : Op) {t v u : ℕ} (h : ExactHistory es last) (ht : t < tasks) (hv : v < variables) (hu : u < tasks) where
  pub clock_tells : ExactClocks w es b → TellsApart w es last p t v u (clock_apart b last (kind p) t v u)
  clock_tells x = record { none = λ e. rw (e, le-ltb (cell tasks b t u) 0 zero-le); tells = tells }
    where
      -- what the cell of the task's next act and column u says
      column : (i : ℕ) → (i < cell tasks b t u) ↔ Came w (OfTask u) es i (due t)
      column i = (λ l. ((x.column u i hu).cells (due t) (due_in ht)).0 (record { knows = l }), λ c. (((x.column u i hu).cells (due t) (due_in ht)).1 c).knows)

      test : Reflects (¬ (cell tasks b t u < latest_number last (kind p) v u)) (not (clock_apart b last (kind p) t v u))
      test = fails (at_most (suc (cell tasks b t u)) (latest_number last (kind p) v u))

      tells : {i : ℕ} {e : Event} {after : List Event} → Occurs es i e after → ActsIn u e → latest_number last (kind p) v u ≡ suc i →
          T (not (clock_apart b last (kind p) t v u)) ↔ Reach w e after (due t)
      tells {i} {e} {after} q a n = (λ y. let f = passed test y in came ((column i).0 (omega arith)), λ r. passes test (known r))
        where
          came : Came w (OfTask u) es i (due t) → Reach w e after (due t)
          came d = by_place (equal i d.j)
            where
              by_place : {c : Bool} → Reflects (i ≡ d.j) c → Reach w e after (due t)
              by_place (right y) = occurs_same (λ e after. Reach w e after (due t)) q (occurs_there y d.occurs) d.reach
              by_place (wrong f) = let k = d.recent in reach_older q d.occurs (omega arith) a d.chosen d.reach

          known : Reach w e after (due t) → ¬ (cell tasks b t u < latest_number last (kind p) v u)
          known r l =
              let k = (column i).1 (record { j = i; e = e; after = after; recent = le_refl i; occurs = q; chosen = a; reach = r }) in
              omega arith

  pub set_tells : ExactSets w es b → TellsApart w es last p t v u (set_apart b last (kind p) t v u)
  set_tells x = record { none = λ e. rw e; tells = tells }
    where
      column : T (has_slot b t (latest_slot (kind p) v u)) ↔ Came w (LastInSlot (latest_slot (kind p) v u)) es 0 (due t)
      column =
          let l = latest_below p hv hu in
          (λ k. ((x.column (latest_slot (kind p) v u) l).cells (due t) (due_in ht)).0 (record { knows = k }), λ c. (((x.column (latest_slot (kind p) v u) l).cells (due t) (due_in ht)).1 c).knows)

      test : Reflects (¬ ((0 < latest_number last (kind p) v u) × (¬ T (has_slot b t (latest_slot (kind p) v u))))) (not (set_apart b last (kind p) t v u))
      test = fails (both (at_most 1 (latest_number last (kind p) v u)) (fails (by_test (has_slot b t (latest_slot (kind p) v u)))))

      tells : {i : ℕ} {e : Event} {after : List Event} → Occurs es i e after → ActsIn u e → latest_number last (kind p) v u ≡ suc i →
          T (not (set_apart b last (kind p) t v u)) ↔ Reach w e after (due t)
      tells {i} {e} {after} q a n = (λ y. came (column.0 (known (passed test y))), λ r. passes test (λ y. y.1 (column.1 (record { j = i; e = e; after = after; recent = zero-le; occurs = q; chosen = kept; reach = r }))))
        where
          kept : LastInSlot (latest_slot (kind p) v u) e after
          kept = kept_at p h hv hu n q

          known : ¬ ((0 < latest_number last (kind p) v u) × (¬ T (has_slot b t (latest_slot (kind p) v u)))) → T (has_slot b t (latest_slot (kind p) v u))
          known f = decided (by_test (has_slot b t (latest_slot (kind p) v u)))
            where
              decided : {c : Bool} → Reflects (T (has_slot b t (latest_slot (kind p) v u))) c → T (has_slot b t (latest_slot (kind p) v u))
              decided (right y) = y
              decided (wrong m) = absurd (f (omega arith, m))

          came : Came w (LastInSlot (latest_slot (kind p) v u)) es 0 (due t) → Reach w e after (due t)
          came d = occurs_same (λ e after. Reach w e after (due t)) q (occurs_there (one_kept q kept d.occurs d.chosen) d.occurs) d.reach

-- By rows

-- the clocks' mask from the task's row and from what the history has for the kind
pub mask_by_rows : (b last : List ℕ) (k t v : ℕ) {row from : ℕ} → row ≡ t * tasks → from ≡ slot (ask_at k) v 0 →
    mask_of (λ u. ltb (get_or b (row + u) 0) (get_or last (from + u) 0)) ≡ clock_mask b last k t v
mask_by_rows b last k t v e q =
    mask_ext _ (clock_apart b last k t v) (λ u h. let p : slot (ask_at k) v 0 + u ≡ slot (ask_at k) v u = omega arith in rw (e, q, p))

-- By words

-- whether order from task u's latest conflicting access has not come, by a word with a bit for each task
abbrev pub apart_by : List ℕ → ℕ → ℕ → ℕ → ℕ → Bool
apart_by last k v x u = ltb 0 (latest_number last k v u) && not (bit x u)

-- with what a row knows of what the kind asks it is the test of the sets, so that the tasks that pass are the mask of the sets
pub mask_by : (b last : List ℕ) (k t v : ℕ) {x : ℕ} → x ≡ known_slots b t (ask_at k) v → mask_of (apart_by last k v x) ≡ set_mask b last k t v
mask_by b last k t v e =
    rw e (mask_ext _ (set_apart b last k t v) (λ u h. ap (λ (c : Bool). ltb 0 (latest_number last k v u) && not c) (sym (slot_known b t (ask_at k) v u h))))
