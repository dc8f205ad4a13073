-- Each reckoning on its own says "path" exactly where Order has one, of every access that it keeps and the act that comes next, after every list,
-- marks included, as it arrived and in the fullest filling. The statement is in specs/feeding/Paths.antt. Assumes nothing.
use mathlib.Core.Path.{◌≡◌, refl, sym, ◌∙◌, ap, subst}
use mathlib.Core.Bool.{Bool, true, false, not, true≢false}
use mathlib.Core.Logic.{◌↔◌, ◌⊎◌, inl, inr}
use mathlib.Core.List.{List, [], ◌∷◌, ◌++◌}
use Prim.Native.Nat.{ℕ, suc, ◌≤◌, ◌<◌, zero-le}
use native.Mathlib.Nat.{le_refl}
use native.Mathlib.Omega.{arith}
use borrow.Author.Tests.{le-ltb}
use lib.Dec.{T}
use lib.ListN.{length, length-append}
use Rattle.theory.specs.declared.record.Record.{Record}
use Rattle.theory.specs.declared.state.State.{State}
use Rattle.theory.specs.declared.state.SetState.{SetState}
use Rattle.theory.specs.order.Limits.{tasks, variables}
use Rattle.theory.specs.order.Recording.{Op, fresh, Event, act, lost, Every, ◌is◌, At, here, there, kind, op_of, event_of, is_access, acts}
use Rattle.theory.specs.order.Path.{HappensBefore, rule, clashes}
use Rattle.theory.specs.fillings.Completion.{Filling, arrived, full, filling, fill_with, fullest, rounds, nothing}
use Rattle.theory.specs.acceptance.Table.{is_act, has_kind, refusal, recording, append_unless}
use Rattle.theory.specs.tables.Rows.{cell}
use Rattle.theory.specs.history.History.{asker, ask_at, latest_slot, latest_number}
use Rattle.theory.specs.feeding.Paths.{Reckoning, clock_reckoning, set_reckoning, left_by, Retained, in_fullest, ExactBetween, SaysPaths, acquiring, ExactPaths}
use Rattle.theory.proofs.basics.Reflects.{Reflects, right, wrong, by_test, equal, at_most, both, passed}
use Rattle.theory.proofs.order.Leads.{Leads, leads_survives, leads_as_arrived, filled_with}
use Rattle.theory.proofs.order.Tests.{none_every, every_none}
use Rattle.theory.proofs.order.Places.{Ends, Occurs, first, next, leads_path, path_leads}
use Rattle.theory.proofs.order.Carry.{Node, due, Acquires, own, by_take, by_look, by_join, Releases, own_next}
use Rattle.theory.proofs.order.Ops.{event_act, op_of_kind, access_on}
use Rattle.theory.proofs.fillings.Reach.{Reach, reach_start, reach_next, leads_reach, arrived_nothing}
use Rattle.theory.proofs.fillings.Between.{filled_path}
use Rattle.theory.proofs.fillings.Came.{Snoc, old, new, occurs_snoc, occurs_old, occurs_new, occurs_short}
use Rattle.theory.proofs.verdicts.Latest.{some_after, some_occurs, occurs_after}
use Rattle.theory.proofs.verdicts.Examples.{ends_middle}
use Rattle.theory.proofs.history.Slots.{InSlot, in_slot, Frees, frees, ExactHistory, slot_one, clash_access}
use Rattle.theory.proofs.history.Numbers.{Ranged, asker_below, asker_op, latest_below}
use Rattle.theory.proofs.tables.Reckoned.{acts_reach, TellsApart, clock_tells, set_tells}
use Rattle.theory.proofs.feeding.Simulation.{Shape, an_act, a_mark, shape_of, Represents, RepresentsSets, Simulates, after_all_lem, clocks_simulate, sets_simulate}

through : {P Q R : Type 0} → P ↔ Q → R ↔ Q → P ↔ R
through a b = (λ p. b.1 (a.0 p), λ r. a.1 (b.0 r))

-- Places

at_occurs_after : {es : List Event} {i : ℕ} {e : Event} → At es i e → (after : List Event) × Occurs es i e after
at_occurs_after here = (_, first)
at_occurs_after (there a) = let (after, o) = at_occurs_after a in (after, next o)

occurs_after_at : {es after : List Event} {i : ℕ} {e : Event} → Occurs es i e after → At es i e
occurs_after_at first = here
occurs_after_at (next o) = there (occurs_after_at o)

-- What is kept, by its number

clash_asker : (o p : Op) → T (clashes o p) → T (is_access p)
unfolding rule
clash_asker o p c = (passed (both (by_test (is_access p)) (by_test (rule o p))) (passed (both (by_test (is_access o)) (by_test _)) c).1).0

module _ (p : Op) {v u : ℕ} (a : T (is_access p)) (hv : v < variables) (hu : u < tasks) where
  -- the slot that an access of op p asks is for the accesses that clash with it
  slot_clash : {e : Event} → InSlot (latest_slot (kind p) v u) e → (o : Op) × (e ≡ act o u v) × T (clashes o p)
  slot_clash (in_slot {o = o} {u = u'} {v = v'} b h c hu' hv' e) =
      let (ea, ev, eu) = slot_one {a = ask_at (kind p)} {a' = b} hv hv' hu hu' e in
      let q : asker b ≡ p = subst (λ (k : ℕ). asker k ≡ p) ea (asker_op p a) in
      (o, (λ i. act o (sym eu i) (sym ev i)), subst (λ (x : Op). T (clashes o x)) q c)

  clash_slot : (o : Op) → T (clashes o p) → InSlot (latest_slot (kind p) v u) (act o u v)
  clash_slot o c = in_slot (ask_at (kind p)) (asker_below p) (subst (λ (q : Op). T (clashes o q)) (sym (asker_op p a)) c) hu hv refl

  -- the slot is emptied by a fresh of the variable
  freed_by : {d : Event} → Frees (latest_slot (kind p) v u) d → (t : ℕ) × (d ≡ act fresh t v)
  freed_by (frees {t = t} {v = v'} b u' hu' hv' e) = let (_, ev, _) = slot_one {a = ask_at (kind p)} {a' = b} hv hv' hu hu' e in (t, λ i. act fresh t (sym ev i))

  module _ {es after : List Event} {j : ℕ} {e : Event} (o : Occurs es j e after) where
    since_freed : ((k t : ℕ) → At es k (act fresh t v) → k ≤ j) → Every (λ d. ¬ Frees (latest_slot (kind p) v u) d) after
    since_freed f = none_every after (λ s. of (some_occurs s))
      where
        of : (k : ℕ) × (d : Event) × (after' : List Event) × Occurs after k d after' × Frees (latest_slot (kind p) v u) d → ⊥
        of (k, d, after', q, x) =
            let (k', l, r) = occurs_after o q in
            let (t, y) = freed_by x in
            let m = f k' t (subst (At es k') y (occurs_after_at r)) in
            omega arith

    freed_since : Every (λ d. ¬ Frees (latest_slot (kind p) v u) d) after → (k t : ℕ) → At es k (act fresh t v) → k ≤ j
    freed_since f k t x = decided (at_most k j)
      where
        decided : {b : Bool} → Reflects (k ≤ j) b → k ≤ j
        decided (right l) = l
        decided (wrong n) = absurd (every_none f (some_after o (at_occurs_after x).1 (omega arith) (frees (ask_at (kind p)) u hu hv refl)))

  module _ {es : List Event} {last : List ℕ} (h : ExactHistory es last) where
    -- an access that clashes, with no fresh after it, stands below the number
    below_number : {j : ℕ} {o : Op} → At es j (act o u v) → T (clashes o p) → ((k t : ℕ) → At es k (act fresh t v) → k ≤ j) → j < latest_number last (kind p) v u
    below_number {j} {o} x c f =
        let (after, q) = at_occurs_after x in
        (h.held (latest_slot (kind p) v u) j (latest_below p hv hu)).1
        (record { j = j; e = act o u v; after = after; recent = le_refl j; occurs = q; inside = clash_slot o c; since = since_freed q f })

    number_kept : {i : ℕ} → latest_number last (kind p) v u ≡ suc i → Retained es p v u i
    number_kept {i} n =
        let d = (h.held (latest_slot (kind p) v u) i (latest_below p hv hu)).0 (omega arith) in
        let (o, e, c) = slot_clash d.inside in
        let x : At es d.j (act o u v) = subst (At es d.j) e (occurs_after_at d.occurs) in
        let f = freed_since d.occurs d.since in
        let l = below_number x c f in
        let r = d.recent in
        let q : d.j ≡ i = omega arith in
        let g : (k t : ℕ) → At es k (act fresh t v) → k ≤ i = λ k t y. (let m = f k t y in omega arith) in
        record {
          op = o;
          at = subst (λ (k : ℕ). At es k (act o u v)) q x;
          clash = c;
          latest = λ j o' y c'. decided j o' y c' g (at_most j i);
          since = g;
        }
      where
        decided : (j : ℕ) (o : Op) → At es j (act o u v) → T (clashes o p) → ((k t : ℕ) → At es k (act fresh t v) → k ≤ i) → {b : Bool} → Reflects (j ≤ i) b → j ≤ i
        decided j o y c g (right l) = l
        decided j o y c g (wrong m) = let l = below_number y c (λ k t z. (let r = g k t z in omega arith)) in absurd (omega arith)

    kept_number : {i : ℕ} → Retained es p v u i → latest_number last (kind p) v u ≡ suc i
    kept_number {i} k = decided (at_most (suc (suc i)) (latest_number last (kind p) v u)) (below_number k.at k.clash k.since)
      where
        decided : {b : Bool} → Reflects (suc i < latest_number last (kind p) v u) b → i < latest_number last (kind p) v u → latest_number last (kind p) v u ≡ suc i
        decided (right l) m =
            let d = (h.held (latest_slot (kind p) v u) (suc i) (latest_below p hv hu)).0 l in
            let (o, e, c) = slot_clash d.inside in
            let y = k.latest d.j o (subst (At es d.j) e (occurs_after_at d.occurs)) c in
            let r = d.recent in
            absurd (omega arith)
        decided (wrong f) m = omega arith

-- Paths to the act that comes next, by what has been reached

-- to an act that acquires nothing beside its own task
acquires_own : {q : Op} {t n : ℕ} {m : Node} → acquiring q ≡ false → Acquires m (act q t n) → m ≡ due t
acquires_own e own = refl
acquires_own e by_take = absurd (true≢false e)
acquires_own e by_look = absurd (true≢false e)
acquires_own e by_join = absurd (true≢false e)

module _ {w : Filling} {e : Event} (after : List Event) {q : Op} {t n : ℕ} where
  leads_before : acquiring q ≡ false → Leads e (fill_with (filling w) after) (act q t n) ↔ Reach w e after (due t)
  leads_before f = (
    λ l. let (m, r, h) = (leads_reach {w = w} {e = e}).0 l in subst (Reach w e after) (acquires_own f h) r,
    λ r. (leads_reach {w = w} {e = e}).1 (due t, r, own),
  )

  -- to any act, once it is fed: what it acquired has come to its task's next act
  leads_after : Leads e (fill_with (filling w) after) (act q t n) ↔ Reach w e (after ++ (act q t n ∷ [])) (due t)
  leads_after = (
    λ l. let (m, r, h) = (leads_reach {w = w} {e = e}).0 l in (reach_next after (act q t n)).1 (inr (m, r, (h, own_next))),
    λ r. from ((reach_next after (act q t n)).0 r),
  )
    where
      from : Reach w e after (due t) ⊎ ((m : Node) × Reach w e after m × (Acquires m (act q t n) × Releases (act q t n) (due t))) → Leads e (fill_with (filling w) after) (act q t n)
      from (inl r) = (leads_reach {w = w} {e = e}).1 (due t, r, own)
      from (inr (m, r, (h, _))) = (leads_reach {w = w} {e = e}).1 (m, r, h)

-- the task of an act
abbrev task_of_lem : Event → ℕ
task_of_lem (act o t n) = t
task_of_lem (lost mask) = 0

abbrev op_fresh : Event → Bool
op_fresh (act o t n) = o is fresh
op_fresh (lost mask) = false

-- what stands after the kept access
abbrev later : {es : List Event} {p : Op} {v u i : ℕ} → Retained es p v u i → List Event
later k = (at_occurs_after k.at).0

stands_at : {es : List Event} {p : Op} {v u i : ℕ} (k : Retained es p v u i) → Occurs es i (act k.op u v) (later k)
stands_at k = (at_occurs_after k.at).1

asks : {es : List Event} {p : Op} {v u i : ℕ} → Retained es p v u i → T (is_access p)
asks {p = p} k = clash_asker k.op p k.clash

module _ (w : Filling) {es : List Event} {last : List ℕ} (p q : Op) (t n : ℕ) {v u i : ℕ} (h : ExactHistory es last) (hv : v < variables) (hu : u < tasks)
    (k : Retained es p v u i) where
  abbrev Path : Type 0
  Path = Leads (act k.op u v) (fill_with (filling w) (later k)) (act q t n)

  said_before : {apart : Bool} → TellsApart w es last p t v u apart → acquiring q ≡ false → T (not apart) ↔ Path
  said_before x f = through (x.tells (stands_at k) acts (kept_number p (asks k) hv hu h k)) (leads_before (later k) f)

  -- once the act is fed: the access is kept still, or the act is kept in its place, which is one of the same task
  module _ {last' : List ℕ} {apart : Bool} (kept : (q is fresh) ≡ false) (h' : ExactHistory (es ++ (act q t n ∷ [])) last') (x : TellsApart w (es ++ (act q t n ∷ [])) last' p t v u apart) where
    -- it is no fresh
    no_fresh : (j w : ℕ) → At (es ++ (act q t n ∷ [])) j (act fresh w v) → j ≤ i
    no_fresh j w y = of (occurs_snoc es (at_occurs_after y).1) refl
      where
        of : {j : ℕ} {e : Event} {after : List Event} → Snoc es (act q t n) j e after → e ≡ act fresh w v → j ≤ i
        of (old {j = j} o) e = k.since j w (subst (At es j) e (occurs_after_at o))
        of new e = absurd (true≢false (sym (ap op_fresh e) ∙ kept))

    replaced : ¬ (latest_number last' (kind p) v u ≡ suc i) → InSlot (latest_slot (kind p) v u) (act q t n)
    replaced f =
        let l = below_number p (asks k) hv hu h' (occurs_after_at (occurs_old (act q t n) (stands_at k))) k.clash no_fresh in
        let d = (h'.held (latest_slot (kind p) v u) (suc i) (latest_below p hv hu)).0 (omega arith) in
        of (occurs_snoc es d.occurs) d.recent d.inside
      where
        of : {j : ℕ} {e : Event} {after : List Event} → Snoc es (act q t n) j e after → suc i ≤ j → InSlot (latest_slot (kind p) v u) e → InSlot (latest_slot (kind p) v u) (act q t n)
        of (old {j = j} o) l y =
            let (op, e, c) = slot_clash p (asks k) hv hu y in
            let m = k.latest j op (subst (At es j) e (occurs_after_at o)) c in
            absurd (omega arith)
        of new l y = y

    said_anew : (o : Op) → act q t n ≡ act o u v → T (clashes o p) → T (not apart) ↔ Path
    said_anew o e c = (λ y. (leads_reach {w = w}).1 (due t, subst (λ (m : ℕ). Reach w (act k.op u v) (later k) (due m)) (sym same) (acts_reach acts), own), λ l. told.1 begun)
      where
        same : t ≡ u
        same = ap task_of_lem e

        stands : Occurs (es ++ (act q t n ∷ [])) (length es) (act o u v) []
        stands = subst (λ (f : Event). Occurs (es ++ (act q t n ∷ [])) (length es) f []) e (occurs_new es)

        number : latest_number last' (kind p) v u ≡ suc (length es)
        number =
            kept_number p (asks k) hv hu h'
            (record {
              op = o;
              at = occurs_after_at stands;
              clash = c;
              latest = λ j o' y c'. let l = occurs_short (at_occurs_after y).1 in omega (arith, length-append es (act q t n ∷ []));
              since = λ j w y. let l = occurs_short (at_occurs_after y).1 in omega (arith, length-append es (act q t n ∷ []));
            })

        told : T (not apart) ↔ Reach w (act o u v) [] (due t)
        told = x.tells stands acts number

        begun : Reach w (act o u v) [] (due t)
        begun = subst (λ (m : ℕ). Reach w (act o u v) [] (due m)) (sym same) (reach_start.1 own_next)

    said_after : T (not apart) ↔ Path
    said_after = decided (equal (latest_number last' (kind p) v u) (suc i))
      where
        decided : {b : Bool} → Reflects (latest_number last' (kind p) v u ≡ suc i) b → T (not apart) ↔ Path
        decided (right e) = through (x.tells (occurs_old (act q t n) (stands_at k)) acts e) (leads_after (later k))
        decided (wrong f) = let (o, e, c) = slot_clash p (asks k) hv hu (replaced f) in said_anew o e c

-- The same over the recording, as it arrived and in the fullest filling

module _ {es after : List Event} {i : ℕ} {e f : Event} (x : Occurs es i e after) where
  at_end : Ends (es ++ (f ∷ [])) (length es) es f
  at_end = ends_middle es []

  pub path_leads_arrived : HappensBefore (es ++ (f ∷ [])) i (length es) ↔ Leads e (fill_with (filling arrived) after) f
  path_leads_arrived =
      subst (λ (g : ℕ → List Event). HappensBefore (es ++ (f ∷ [])) i (length es) ↔ Leads e (fill_with g after) f) (sym arrived_nothing)
      (λ y. leads_survives (filled_with nothing after) (path_leads at_end x y), λ l. leads_path at_end x (leads_as_arrived (filled_with nothing after) l))

path_fullest : {es after : List Event} {i : ℕ} {o q : Op} {t u v n : ℕ} → Occurs es i (act o u v) after →
    HappensBefore (fullest (es ++ (act q t n ∷ []))) (in_fullest (es ++ (act q t n ∷ [])) i) (in_fullest (es ++ (act q t n ∷ [])) (length es))
    ↔ Leads (act o u v) (fill_with (filling full) after) (act q t n)
path_fullest x = filled_path rounds (at_end x) x

-- A reckoning whose state is exact for a recording

record Exactly {S : Type 0} (x : Reckoning S) (es : List Event) (s : S) : Type 0 where
  last : List ℕ
  numbers : (k v u : ℕ) → x.number s k v u ≡ latest_number last k v u
  none : (k t v u : ℕ) → x.number s k v u ≡ 0 → (x.apart s k t v u ≡ false) × (x.apart_in_full s k t v u ≡ false)
  history : ExactHistory es last
  ranged : Ranged es
  as_arrived : (p : Op) (t v u : ℕ) → T (is_access p) → t < tasks → v < variables → u < tasks → TellsApart arrived es last p t v u (x.apart s (kind p) t v u)
  in_full : (p : Op) (t v u : ℕ) → T (is_access p) → t < tasks → v < variables → u < tasks → TellsApart full es last p t v u (x.apart_in_full s (kind p) t v u)

clocks_exactly : {es : List Event} {s : State} → Represents es s → Exactly clock_reckoning es s
clocks_exactly {s = s} x =
    record {
      last = s.last;
      numbers = λ k v u. refl;
      none = λ k t v u e. (rw (e, le-ltb (cell tasks s.clocks t u) 0 zero-le), rw (e, le-ltb (cell tasks s.fullclocks t u) 0 zero-le));
      history = x.base.history;
      ranged = x.base.ranged;
      as_arrived = λ p t v u a ht hv hu. clock_tells p x.base.history ht hv hu x.clocks.as_arrived;
      in_full = λ p t v u a ht hv hu. clock_tells p x.base.history ht hv hu x.clocks.in_full;
    }

sets_exactly : {es : List Event} {s : SetState} → RepresentsSets es s → Exactly set_reckoning es s
sets_exactly {s = s} x =
    record {
      last = s.last;
      numbers = λ k v u. refl;
      none = λ k t v u e. (rw e, rw e);
      history = x.base.history;
      ranged = x.base.ranged;
      as_arrived = λ p t v u a ht hv hu. set_tells p x.base.history ht hv hu x.sets.as_arrived;
      in_full = λ p t v u a ht hv hu. set_tells p x.base.history ht hv hu x.sets.in_full;
    }

-- the numbers of a kept access are in their ranges
kept_ranged : {es : List Event} {p : Op} {v u i : ℕ} → Ranged es → Retained es p v u i → (u < tasks) × (v < variables)
kept_ranged {p = p} r k =
    let (hu, hv) = r.in_range_lem _ k.op _ _ _ (stands_at k) in
    (hu, access_on k.op (clash_access k.op p k.clash) hv)

-- so it says paths of an act that comes next, before that is fed and after
module _ {S : Type 0} {x : Reckoning S} {es : List Event} {s : S} (y : Exactly x es s) (q : Op) (t n : ℕ) (ht : t < tasks) where
  paths_before : acquiring q ≡ false → (p : Op) (v u i : ℕ) → Retained es p v u i →
      ExactBetween (es ++ (act q t n ∷ [])) i (length es) (x.apart s (kind p) t v u) (x.apart_in_full s (kind p) t v u)
  paths_before f p v u i k =
      let (hu, hv) = kept_ranged y.ranged k in
      record {
        as_arrived = through (said_before arrived p q t n y.history hv hu k (y.as_arrived p t v u (asks k) ht hv hu) f) (path_leads_arrived (stands_at k));
        in_fullest_lem = through (said_before full p q t n y.history hv hu k (y.in_full p t v u (asks k) ht hv hu) f) (path_fullest (stands_at k));
      }

  paths_after : {s' : S} → (q is fresh) ≡ false → Exactly x (es ++ (act q t n ∷ [])) s' → (p : Op) (v u i : ℕ) → Retained es p v u i →
      ExactBetween (es ++ (act q t n ∷ [])) i (length es) (x.apart s' (kind p) t v u) (x.apart_in_full s' (kind p) t v u)
  paths_after f z p v u i k =
      let (hu, hv) = kept_ranged y.ranged k in
      record {
        as_arrived = through (said_after arrived p q t n y.history hv hu k f z.history (z.as_arrived p t v u (asks k) ht hv hu)) (path_leads_arrived (stands_at k));
        in_fullest_lem = through (said_after full p q t n y.history hv hu k f z.history (z.in_full p t v u (asks k) ht hv hu)) (path_fullest (stands_at k));
      }

-- After every list

module _ {S : Type 0} {x : Reckoning S} {R : List Event → S → Type 0} (simulates : Simulates x.checker R) (exactly : (es : List Event) (s : S) → R es s → Exactly x es s) where
  represents : (rs : List Record) → R (recording rs) (left_by x rs)
  represents rs = after_all_lem simulates [] x.checker.fresh rs simulates.begins

  next_exactly : (rs : List Record) (r : Record) → refusal (recording rs) r ≡ 0 → Exactly x (recording rs ++ (event_of r ∷ [])) (x.checker.next (left_by x rs) r)
  next_exactly rs r e =
      exactly _ _ (subst (λ (n : ℕ). R (append_unless (recording rs) r n) (x.checker.next (left_by x rs) r)) e (simulates.steps (recording rs) (left_by x rs) r (represents rs)).1)

  exact_paths : ExactPaths x
  exact_paths rs =
      record {
        keeps = λ p v u i a hv hu. (λ e. number_kept p a hv hu now.history (sym (now.numbers (kind p) v u) ∙ e), λ k. now.numbers (kind p) v u ∙ kept_number p a hv hu now.history k);
        keeps_none = now.none;
        before = λ r e a f. before (shape_of (recording rs) r e) a f;
        after = λ r e a f. after (shape_of (recording rs) r e) a f (next_exactly rs r e);
      }
    where
      now : Exactly x (recording rs) (left_by x rs)
      now = exactly _ _ (represents rs)

      before : {r : Record} → Shape (recording rs) r → is_act r ≡ true → acquiring (op_of r.kind) ≡ false → SaysPaths x (left_by x rs) (recording rs) r
      before (an_act q t n a) b f = rw (event_act q t n) (paths_before now q t n a.fits.task_fits (rw (op_of_kind q) at f))
      before (a_mark t n m) b f = absurd (true≢false (sym b))

      after : {r : Record} → Shape (recording rs) r → is_act r ≡ true → has_kind r fresh ≡ false → Exactly x (recording rs ++ (event_of r ∷ [])) (x.checker.next (left_by x rs) r) →
          SaysPaths x (x.checker.next (left_by x rs) r) (recording rs) r
      after (an_act q t n a) b f z = rw (event_act q t n) (paths_after now q t n a.fits.task_fits f (rw (event_act q t n) at z))
      after (a_mark t n m) b f z = absurd (true≢false (sym b))

pub clock_paths : ExactPaths clock_reckoning
clock_paths = exact_paths clocks_simulate (λ es s. clocks_exactly)

pub set_paths : ExactPaths set_reckoning
set_paths = exact_paths sets_simulate (λ es s. sets_exactly)
