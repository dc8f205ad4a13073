-- The history tells each task's latest conflicting access: its number is one more than the place of the task's final access that
-- conflicts, and 0 where there is none. Assumes nothing.
use mathlib.Core.Path.{◌≡◌, refl, sym, subst}
use mathlib.Core.Bool.{Bool, true, not, ◌||◌}
use mathlib.Core.Logic.{◌↔◌, ◌≢◌}
use mathlib.Core.List.{List, [], ◌∷◌, ◌++◌}
use Prim.Native.Nat.{ℕ, suc, ◌≤◌, ◌<◌}
use native.Mathlib.Nat.{le_refl}
use native.Mathlib.Omega.{arith}
use borrow.Author.Tests.{ltb-true}
use lib.Dec.{T, ltb}
use lib.ListN.{length}
use Rattle.theory.specs.order.Recording.{Op, fresh, Event, act, lost, Every, series, size_of, kind, about, access_number, Kind, of_op, of_mark, ◌is◌, ActsIn, acts, is_access}
use Rattle.theory.specs.order.Path.{clashes, Conflict, conflict, Empties, empties, Against}
use Rattle.theory.specs.history.History.{askers, asker, ask_at, slots, latest_slot, latest_number}
use Rattle.theory.specs.order.Limits.{tasks, variables}
use Rattle.theory.proofs.basics.Reflects.{Reflects, right, wrong, at_most, by_test, is_true, passed}
use Rattle.theory.proofs.order.Places.{Occurs, first, next}
use Rattle.theory.proofs.order.Tests.{Again, every_map}
use Rattle.theory.proofs.verdicts.Latest.{Final, against_later, some_after, some_occurs, occurs_after}
use Rattle.theory.proofs.fillings.Came.{Snoc, old, new, occurs_snoc}
use Rattle.theory.proofs.history.Slots.{InSlot, in_slot, Frees, frees, ExactHistory, slot_below, slot_one}
use Rattle.theory.proofs.order.Ops.{op_of_kind, same_op, each_op}

-- Ranges

-- the acts of a recording have numbers in their ranges
pub record Ranged (es : List Event) : Type 0 where
  pub in_range_lem : (j : ℕ) (o : Op) (u n : ℕ) (after : List Event) → Occurs es j (act o u n) after → (u < tasks) × (n < size_of (series o))

pub fresh_ranged : Ranged []
fresh_ranged = record { in_range_lem = λ j o u n after q. elim q [ ] }

pub ranged_act : {es : List Event} (o : Op) {t n : ℕ} → t < tasks → n < size_of (series o) → Ranged es → Ranged (es ++ (act o t n ∷ []))
ranged_act {es} o {t} {n} ht hn r = record { in_range_lem = λ j p u m after q. cases (occurs_snoc es q) }
  where
    cases : {j : ℕ} {p : Op} {u m : ℕ} {after : List Event} → Snoc es (act o t n) j (act p u m) after → (u < tasks) × (m < size_of (series p))
    cases (old q) = r.in_range_lem _ _ _ _ _ q
    cases new = (ht, hn)

pub ranged_mark : {es : List Event} (mask : ℕ) → Ranged es → Ranged (es ++ (lost mask ∷ []))
ranged_mark {es} mask r = record { in_range_lem = λ j p u m after q. cases (occurs_snoc es q) }
  where
    cases : {j : ℕ} {p : Op} {u m : ℕ} {after : List Event} → Snoc es (lost mask) j (act p u m) after → (u < tasks) × (m < size_of (series p))
    cases (old q) = r.in_range_lem _ _ _ _ _ q

-- Conflicting accesses by slots

-- the slot that an access of op p asks: the number of the kind that asks is in range, and tells the op
pub asker_below : (p : Op) → ask_at (kind p) < length askers
asker_below p = rw (op_of_kind p) (ltb-true (access_number (about p).access) (length askers) (each_op in_askers refl refl p))
  where
    in_askers : Kind → Bool
    in_askers (of_op o) = ltb (access_number (about o).access) (length askers)
    in_askers of_mark = true

pub asker_op : (p : Op) → T (is_access p) → asker (ask_at (kind p)) ≡ p
asker_op p a = rw (op_of_kind p) (passed (same_op (asker (access_number (about p).access)) p) (subst T (sym (rw (is_true (by_test (is_access p)) a) at (each_op is_asker refl refl p))) tt))
  where
    is_asker : Kind → Bool
    is_asker (of_op o) = not (is_access o) || asker (access_number (about o).access) is o
    is_asker of_mark = true

pub latest_below : (p : Op) {v u : ℕ} → v < variables → u < tasks → latest_slot (kind p) v u < slots
latest_below p hv hu = slot_below (asker_below p) hv hu

module _ {p : Op} {t v u : ℕ} (ap : T (is_access p)) (hv : v < variables) (hu : u < tasks) where
  slot_conflict : u ≢ t → {e : Event} → InSlot (latest_slot (kind p) v u) e → ActsIn u e × Conflict e (act p t v)
  slot_conflict apart (in_slot {o = o} {u = u'} {v = v'} a h c hu' hv' e) =
      let (ea, ev, eu) = slot_one {a = ask_at (kind p)} {a' = a} hv hv' hu hu' e in
      rw (← ev, ← eu) (acts, conflict apart (subst (λ (q : Op). T (clashes o q)) (ap' ea) c))
    where
      ap' : ask_at (kind p) ≡ a → asker a ≡ p
      ap' ea = subst (λ (k : ℕ). asker k ≡ p) ea (asker_op p ap)

  conflict_slot : {e : Event} → ActsIn u e → Conflict e (act p t v) → InSlot (latest_slot (kind p) v u) e
  conflict_slot acts (conflict {o = o} n c) = in_slot (ask_at (kind p)) (asker_below p) (subst (λ (q : Op). T (clashes o q)) (sym (asker_op p ap)) c) hu hv refl

-- for such an access the slot is emptied just where the variable's history is

module _ {p : Op} {t v u : ℕ} (hv : v < variables) (hu : u < tasks) where
  frees_empties : (d : Event) → Frees (latest_slot (kind p) v u) d → Empties d (act p t v)
  frees_empties d (frees {t = t'} {v = v'} a u' hu' hv' e) =
      subst (λ (w : ℕ). Empties (act fresh t' v') (act p t w)) (sym (slot_one {a = ask_at (kind p)} {a' = a} hv hv' hu hu' e).1) empties

  empties_frees : (d : Event) → Empties d (act p t v) → Frees (latest_slot (kind p) v u) d
  empties_frees d empties = frees (ask_at (kind p)) u hu hv refl

  since_emptied : {mid : List Event} → Every (λ d. ¬ Frees (latest_slot (kind p) v u) d) mid → Every (λ d. ¬ Empties d (act p t v)) mid
  since_emptied = every_map (λ d n q. n (empties_frees d q))

  since_freed : {mid : List Event} → Every (λ d. ¬ Empties d (act p t v)) mid → Every (λ d. ¬ Frees (latest_slot (kind p) v u) d) mid
  since_freed = every_map (λ d n q. n (frees_empties d q))

-- The number of the latest

-- f is held against task u's access at place j
pub record AgainstAt (es : List Event) (u : ℕ) (f : Event) (j : ℕ) : Type 0 where
  pub e : Event
  pub after : List Event
  pub occurs : Occurs es j e after
  pub against : Against u e after f

-- what is true of the event at a place, and of what follows it, is true of the one known to be there
pub occurs_same : (P : Event → List Event → Type 0) {es after after' : List Event} {i : ℕ} {e e' : Event} → Occurs es i e after → Occurs es i e' after' →
    P e' after' → P e after
occurs_same P first first x = x
occurs_same P (next o) (next q) x = occurs_same P o q x

module _ {es : List Event} {last : List ℕ} {p : Op} {t v u : ℕ} (h : ExactHistory es last) (ap : T (is_access p)) (hv : v < variables) (hu : u < tasks) (apart : u ≢ t) where
  number_conflicts : (m : ℕ) → (m < latest_number last (kind p) v u) ↔ ((j : ℕ) × (m ≤ j) × AgainstAt es u (act p t v) j)
  number_conflicts m = (to, from)
    where
      to : m < latest_number last (kind p) v u → (j : ℕ) × (m ≤ j) × AgainstAt es u (act p t v) j
      to l =
          let d = (h.held (latest_slot (kind p) v u) m (latest_below p hv hu)).0 l in
          let (a, q) = slot_conflict ap hv hu apart d.inside in
          (d.j, d.recent, record { e = d.e; after = d.after; occurs = d.occurs; against = record { by = a; conflict = q; since = since_emptied hv hu d.since } })

      from : (j : ℕ) × (m ≤ j) × AgainstAt es u (act p t v) j → m < latest_number last (kind p) v u
      from (j, l, x) =
          let q = conflict_slot ap hv hu x.against.by x.against.conflict in
          (h.held (latest_slot (kind p) v u) m (latest_below p hv hu)).1 (record { j = j; e = x.e; after = x.after; recent = l; occurs = x.occurs; inside = q; since = since_freed hv hu x.against.since })

  -- no conflicting access stands after the one that the number tells
  none_later : {i j : ℕ} {e : Event} {after : List Event} → latest_number last (kind p) v u ≡ suc i → i ≤ j → Occurs es j e after → Against u e after (act p t v) → ¬ Again u (act p t v) after
  none_later {i} {j} n l o b s =
      let (k, x, after', q, (a, c)) = some_occurs s in
      let (k', m, r) = occurs_after o q in
      let k : k' < latest_number last (kind p) v u = (number_conflicts k').1 (k', le_refl _, record { e = x; after = after'; occurs = r; against = against_later b q (a, c) }) in
      omega arith

  pub number_final : {i : ℕ} → latest_number last (kind p) v u ≡ suc i → Final u (act p t v) es i
  number_final {i} n =
      let l : i < latest_number last (kind p) v u = omega arith in
      let (j, m, x) = (number_conflicts i).0 l in
      let k : j < latest_number last (kind p) v u = (number_conflicts j).1 (j, le_refl _, x) in
      let q : j ≡ i = omega arith in
      subst (Final u (act p t v) es) q
      (record { x = x.e; after = x.after; occurs = x.occurs; against = x.against; none = none_later n m x.occurs x.against })

  pub final_number : {i : ℕ} → Final u (act p t v) es i → latest_number last (kind p) v u ≡ suc i
  final_number {i} f =
      let a : i < latest_number last (kind p) v u = (number_conflicts i).1 (i, le_refl _, record { e = f.x; after = f.after; occurs = f.occurs; against = f.against }) in
      decided (at_most (suc (suc i)) (latest_number last (kind p) v u)) a
    where
      decided : {b : Bool} → Reflects (suc i < latest_number last (kind p) v u) b → i < latest_number last (kind p) v u → latest_number last (kind p) v u ≡ suc i
      decided (right l) a =
          let (j, m, x) = (number_conflicts (suc i)).0 l in
          absurd (f.none (some_after f.occurs x.occurs m (x.against.by, x.against.conflict)))
      decided (wrong l) a = omega arith
