-- Slots keep accesses: which access is in which slots, and the latest of each. Assumes nothing.
use mathlib.Core.Path.{◌≡◌, refl, ◌∙◌, subst}
use mathlib.Core.Bool.{Bool, cond, ◌&&◌}
use mathlib.Core.Logic.{◌↔◌, ◌⊎◌, inl, inr, ◌≢◌}
use mathlib.Core.List.{List, [], ◌∷◌, ◌++◌}
use Prim.Native.Nat.{ℕ, zero, suc, ◌/◌, ◌%◌, ◌≤◌, ◌<◌}
use native.Mathlib.Omega.{arith}
use lib.Dec.{T}
use lib.ListN.{length, set, replicate, length-set, length-replicate, get_or-replicate}
use lib.Seq.{get_or-set_same, get_or-set_other}
use Rattle.theory.specs.basics.Turns.{turns}
use Rattle.theory.specs.order.Recording.{Op, fresh, Event, act, lost, loss_mark, Every, no_more, series, size_of, kind, is_access}
use Rattle.theory.specs.order.Path.{rule, clashes}
use Rattle.theory.specs.history.History.{askers, asker, kept_for, slot, slots, last_of, under_each, emptied, last_after}
use Rattle.theory.specs.order.Limits.{tasks, variables}
use Rattle.theory.proofs.order.Ops.{numbered_kind_kind, access_on, same_op}
use Rattle.theory.proofs.order.Tests.{every_snoc, snoc_every}
use Rattle.theory.proofs.history.Emptied.{emptied_length, emptied_other, emptied_at, slot_parts}
use Rattle.theory.proofs.basics.Reflects.{Reflects, right, wrong, equal, by_test, both, passed}
use Rattle.theory.proofs.order.Places.{Occurs, nowhere}
use Rattle.theory.proofs.fillings.Came.{Snoc, old, new, occurs_snoc, occurs_old, occurs_new, occurs_short}

-- Definition

-- the event is an access, in range, that the slot is for: it clashes with the kind that asks there
pub data InSlot (s : ℕ) : Event → Type 0 where
  in_slot : {o : Op} {u v : ℕ} (a : ℕ) → a < length askers → T (clashes o (asker a)) → u < tasks → v < variables → s ≡ slot a v u → InSlot s (act o u v)

-- the event empties the slot: it is a fresh of the slot's variable
pub data Frees (s : ℕ) : Event → Type 0 where
  frees : {t v : ℕ} (a u : ℕ) → u < tasks → v < variables → s ≡ slot a v u → Frees s (act fresh t v)

-- an access in the slot stands at place i or later, and the slot was not emptied since
pub record Held (es : List Event) (s i : ℕ) : Type 0 where
  pub j : ℕ
  pub e : Event
  pub after : List Event
  pub recent : i ≤ j
  pub occurs : Occurs es j e after
  pub inside : InSlot s e
  pub since : Every (λ d. ¬ Frees s d) after

pub record ExactHistory (es : List Event) (last : List ℕ) : Type 0 where
  pub size : length last ≡ slots
  pub held : (s i : ℕ) → s < slots → (i < last_of last s) ↔ Held es s i

-- Slots

pub slot_below : {a v u : ℕ} → a < length askers → v < variables → u < tasks → slot a v u < slots
slot_below ha hv hu = omega arith

-- the slot tells the kind that asks, the variable and the task
pub slot_one : {a a' v v' u u' : ℕ} → v < variables → v' < variables → u < tasks → u' < tasks → slot a v u ≡ slot a' v' u' → (a ≡ a') × (v ≡ v') × (u ≡ u')
slot_one hv hv' hu hu' e = omega arith

-- what clashes is an access
pub clash_access : (o p : Op) → T (clashes o p) → T (is_access o)
clash_access o p c = (passed (both (by_test (is_access o)) (by_test (is_access p && rule o p))) c).0

-- A fold over the slots of an access: each is written, and what is elsewhere stays

module _ {A : Type 0} (f : ℕ → A → A) (k v u : ℕ) where
  -- s is one of the first n slots that an access of kind k to v by u is kept in
  pub record Under (n s : ℕ) : Type 0 where
    pub a : ℕ
    pub among : a < n
    pub clash : T (kept_for k a)
    pub place : s ≡ slot a v u

  -- what is in slot s is `On` where that is one of the first n, and `Off` elsewhere
  abbrev pub WroteTo : (A → Type 0) → (A → Type 0) → (A → Type 0) → ℕ → ℕ → A → Type 0
  WroteTo Ok On Off s n b = Ok b × ((Under n s × On b) ⊎ ((¬ Under n s) × Off b))

  module _ (Ok On Off : A → Type 0) (s : ℕ)
      (ok : (a : ℕ) (b : A) → a < length askers → T (kept_for k a) → Ok b → Ok (f (slot a v u) b))
      (on : (a : ℕ) (b : A) → a < length askers → T (kept_for k a) → s ≡ slot a v u → Ok b → On (f (slot a v u) b))
      (apart : (a : ℕ) (b : A) → a < length askers → T (kept_for k a) → s ≢ slot a v u → Ok b →
      (On b → On (f (slot a v u) b)) × (Off b → Off (f (slot a v u) b))) where
    abbrev Wrote : ℕ → A → Type 0
    Wrote = WroteTo Ok On Off s

    abbrev step : ℕ → A → A
    step a b = cond (kept_for k a) (f (slot a v u) b) b

    one_more_lem : {n : ℕ} → Under n s → Under (suc n) s
    one_more_lem x = let h = x.among in record { a = x.a; among = omega arith; clash = x.clash; place = x.place }

    next : (n : ℕ) (b : A) → n < length askers → Wrote n b → Wrote (suc n) (step n b)
    next n b h (o, w) = decided (by_test (kept_for k n))
      where
        fewer : (T (kept_for k n) → s ≢ slot n v u) → Under (suc n) s → Under n s
        fewer away x = of (equal x.a n)
          where
            of : {p : Bool} → Reflects (x.a ≡ n) p → Under n s
            of (right e) = absurd (away (subst (λ (a : ℕ). T (kept_for k a)) e x.clash) (subst (λ (a : ℕ). s ≡ slot a v u) e x.place))
            of (wrong d) = let l = x.among in record { a = x.a; among = omega arith; clash = x.clash; place = x.place }

        stays : {y : A} → (T (kept_for k n) → s ≢ slot n v u) → (On b → On y) × (Off b → Off y) → (Under n s × On b) ⊎ ((¬ Under n s) × Off b) →
            (Under (suc n) s × On y) ⊎ ((¬ Under (suc n) s) × Off y)
        stays away (p, q) (inl (x, y)) = inl (one_more_lem x, p y)
        stays away (p, q) (inr (x, y)) = inr ((λ z. x (fewer away z)), q y)

        decided : {p : Bool} → Reflects (T (kept_for k n)) p → Wrote (suc n) (cond p (f (slot n v u) b) b)
        decided (right c) = (ok n b h c o, here (equal s (slot n v u)))
          where
            here : {p : Bool} → Reflects (s ≡ slot n v u) p → (Under (suc n) s × On (f (slot n v u) b)) ⊎ ((¬ Under (suc n) s) × Off (f (slot n v u) b))
            here (right e) = inl (record { a = n; among = omega arith; clash = c; place = e }, on n b h c e o)
            here (wrong d) = stays (λ _. d) (apart n b h c d o) w
        decided (wrong c) = (o, stays (λ t. absurd (c t)) (λ y. y, λ y. y) w)

    all : (n : ℕ) (b : A) → n ≤ length askers → Ok b → Off b → Wrote n (turns n step b)
    unfolding turns
    all zero b h o q = (o, inr ((λ x. let l = x.among in omega arith), q))
    all (suc n) b h o q = next n (turns n step b) (omega arith) (all n b (omega arith) o q)

    pub under_each_lem : (b : A) → Ok b → Off b → Wrote (length askers) (under_each f k v u b)
    unfolding under_each
    under_each_lem b o q = all (length askers) b (omega arith) o q

-- which slots an act is in
pub in_under : {A : Type 0} {f : ℕ → A → A} {o : Op} {s t n : ℕ} → InSlot s (act o t n) → Under f (kind o) n t (length askers) s
in_under {o = o} (in_slot a h c hu hv e) = record { a = a; among = h; clash = rw (numbered_kind_kind o) c; place = e }

pub under_in_lem : {A : Type 0} {f : ℕ → A → A} (o : Op) {s t n : ℕ} → t < tasks → n < size_of (series o) → Under f (kind o) n t (length askers) s → InSlot s (act o t n)
under_in_lem o ht hn x =
    let c : T (clashes o (asker x.a)) = rw (numbered_kind_kind o) at x.clash in
    in_slot x.a x.among c ht (access_on o (clash_access o (asker x.a) c) hn) x.place

-- the variable of an act that is kept
pub kept_on : (o : Op) (a : ℕ) {n : ℕ} → n < size_of (series o) → T (kept_for (kind o) a) → n < variables
kept_on o a hn c = access_on o (clash_access o (asker a) (rw (numbered_kind_kind o) at c)) hn

pub no_slot_mark : {mask s : ℕ} → ¬ InSlot s (lost mask)
no_slot_mark q = elim q [ ]

-- The history

-- with one event more, an access is held that was, where the event does not empty the slot, or that the event is
abbrev HeldWith : List Event → Event → ℕ → ℕ → Type 0
HeldWith es x s i = (Held es s i × (¬ Frees s x)) ⊎ ((i ≤ length es) × InSlot s x)

held_snoc : {es : List Event} {x : Event} {s i : ℕ} → Held (es ++ (x ∷ [])) s i → HeldWith es x s i
held_snoc {es} {x} {s} {i} h = cases (occurs_snoc es h.occurs) h.recent h.inside h.since
  where
    cases : {j : ℕ} {e : Event} {after : List Event} → Snoc es x j e after → i ≤ j → InSlot s e → Every (λ d. ¬ Frees s d) after → HeldWith es x s i
    cases (old {j = j} {e = e} {after = after} o) r q f =
        let (g, n) = every_snoc after f in
        inl (record { j = j; e = e; after = after; recent = r; occurs = o; inside = q; since = g }, n)
    cases new r q f = inr (r, q)

snoc_held : (es : List Event) (x : Event) {s i : ℕ} → HeldWith es x s i → Held (es ++ (x ∷ [])) s i
snoc_held es x (inl (h, n)) =
    record { j = h.j; e = h.e; after = h.after ++ (x ∷ []); recent = h.recent; occurs = occurs_old x h.occurs; inside = h.inside; since = snoc_every x h.since n }
snoc_held es x (inr (r, q)) = record { j = length es; e = x; after = []; recent = r; occurs = occurs_new es; inside = q; since = no_more }

-- what is no fresh empties nothing
keeps_slots : {o : Op} {t n s : ℕ} → ¬ (o ≡ fresh) → ¬ Frees s (act o t n)
keeps_slots n (frees a u hu hv e) = n refl

-- a fresh is kept nowhere
no_slot_fresh : {t n s : ℕ} → ¬ InSlot s (act fresh t n)
no_slot_fresh (in_slot a h c hu hv e) = absurd c

-- an emptied slot has no number, and the others stay
pub history_fresh : {es : List Event} {last : List ℕ} (t n : ℕ) → n < variables → ExactHistory es last → ExactHistory (es ++ (act fresh t n ∷ [])) (emptied n last)
history_fresh {es} {last} t n hn h =
    record { size = emptied_length n last ∙ h.size; held = λ s i l. decided s i l (equal s (slot (s / tasks / variables) n (s % tasks))) }
  where
    decided : (s i : ℕ) → s < slots → {b : Bool} → Reflects (s ≡ slot (s / tasks / variables) n (s % tasks)) b → (i < last_of (emptied n last) s) ↔ Held (es ++ (act fresh t n ∷ [])) s i
    decided s i l (right e) = (λ q. absurd (gone q), λ d. absurd (out (held_snoc d)))
      where
        gone : ¬ (i < last_of (emptied n last) s)
        gone q =
            let k : last_of (emptied n last) s ≡ 0 = rw e (emptied_at n last (s / tasks / variables) (s % tasks) hn (omega arith) (omega arith) h.size) in
            omega arith

        out : HeldWith es (act fresh t n) s i → ⊥
        out (inl (d, f)) = f (frees (s / tasks / variables) (s % tasks) (omega arith) hn e)
        out (inr (r, q)) = no_slot_fresh q
    decided s i l (wrong d) = (λ q. snoc_held es (act fresh t n) (inl ((h.held s i l).0 (rw same at q), stays)), λ x. rw same ((h.held s i l).1 (before (held_snoc x))))
      where
        same : last_of (emptied n last) s ≡ last_of last s
        same = emptied_other n last s (λ a u hu e. d (slot_parts s a n u hn hu e))

        stays : ¬ Frees s (act fresh t n)
        stays (frees a u hu hv e) = d (slot_parts s a n u hv hu e)

        before : HeldWith es (act fresh t n) s i → Held es s i
        before (inl (x, f)) = x
        before (inr (r, q)) = absurd (no_slot_fresh q)

module _ {es : List Event} {last : List ℕ} {t n number : ℕ} (o : Op) (h : ExactHistory es last) (ht : t < tasks) (hn : n < size_of (series o)) (numbered : number ≡ suc (length es)) where
  abbrev keep : ℕ → List ℕ → List ℕ
  keep s l = set l s number

  abbrev kept_in : List ℕ
  kept_in = under_each keep (kind o) n t last

  -- a slot has the number where the act is kept in it, and what it had elsewhere
  kept : (s : ℕ) → WroteTo keep (kind o) n t (λ l. length l ≡ slots) (λ l. last_of l s ≡ number) (λ l. last_of l s ≡ last_of last s) s (length askers) kept_in
  kept s = under_each_lem keep (kind o) n t (λ l. length l ≡ slots) (λ l. last_of l s ≡ number) (λ l. last_of l s ≡ last_of last s) s
      (λ a l ha c e. length-set l (slot a n t) number ∙ e)
      (λ a l ha c p e. rw p (get_or-set_same l (slot a n t) number 0 (rw e (slot_below ha (kept_on o a hn c) ht))))
      (λ a l ha c d e. (λ q. get_or-set_other l (slot a n t) s number 0 d ∙ q, λ q. get_or-set_other l (slot a n t) s number 0 d ∙ q))
      last h.size refl

  history_kept : ¬ (o ≡ fresh) → ExactHistory (es ++ (act o t n ∷ [])) kept_in
  history_kept f = record { size = (kept 0).0; held = λ s i l. cases s i l (kept s).1 }
    where
      cases : (s i : ℕ) → s < slots →
          (Under keep (kind o) n t (length askers) s × (last_of kept_in s ≡ number)) ⊎ ((¬ Under keep (kind o) n t (length askers) s) × (last_of kept_in s ≡ last_of last s)) →
          (i < last_of kept_in s) ↔ Held (es ++ (act o t n ∷ [])) s i
      cases s i l (inl (x, e)) = (λ q. snoc_held es (act o t n) (inr (let r : i < number = rw e at q in omega arith, under_in_lem o ht hn x)), λ d. rw e (under (held_snoc d)))
        where
          under : HeldWith es (act o t n) s i → i < number
          under (inl (d, k)) = let r = d.recent in let k = occurs_short d.occurs in omega arith
          under (inr (r, q)) = omega arith
      cases s i l (inr (x, e)) = (λ q. snoc_held es (act o t n) (inl ((h.held s i l).0 (rw e at q), keeps_slots f)), λ d. rw e ((h.held s i l).1 (stays (held_snoc d))))
        where
          stays : HeldWith es (act o t n) s i → Held es s i
          stays (inl (d, k)) = d
          stays (inr (_, q)) = absurd (x (in_under q))

pub history_act : {es : List Event} {last : List ℕ} {t n number : ℕ} (o : Op) → ExactHistory es last → t < tasks → n < size_of (series o) → number ≡ suc (length es) →
    ExactHistory (es ++ (act o t n ∷ [])) (last_after (kind o) t n number last)
history_act {es} {last} {t} {n} {number} o h ht hn numbered = decided (same_op o fresh)
  where
    decided : {b : Bool} → Reflects (o ≡ fresh) b →
        ExactHistory (es ++ (act o t n ∷ [])) (cond b (emptied n last) (under_each (λ s l. set l s number) (kind o) n t last))
    decided (right e) = rw e (history_fresh t n (subst (λ (p : Op). n < size_of (series p)) e hn) h)
    decided (wrong f) = history_kept o h ht hn numbered f

-- a mark is kept nowhere
pub history_mark : {es : List Event} {last : List ℕ} (mask t n number : ℕ) → ExactHistory es last → ExactHistory (es ++ (lost mask ∷ [])) (last_after loss_mark t n number last)
unfolding under_each turns
history_mark {es} mask t n number h = record { size = h.size; held = λ s i l. (λ a. snoc_held es (lost mask) (inl ((h.held s i l).0 a, λ q. elim q [ ])), λ d. (h.held s i l).1 (stays (held_snoc d))) }
  where
    stays : {s i : ℕ} → HeldWith es (lost mask) s i → Held es s i
    stays (inl (d, k)) = d
    stays (inr (_, q)) = absurd (no_slot_mark q)

pub fresh_history : ExactHistory [] (replicate slots 0)
fresh_history =
    record {
      size = length-replicate {A = ℕ} slots 0;
      held = λ s i l. (λ q. absurd (none s i l q), λ d. absurd (nowhere d.occurs));
    }
  where
    none : (s i : ℕ) → s < slots → ¬ (i < last_of (replicate slots 0) s)
    none s i l q = let e : last_of (replicate slots 0) s ≡ 0 = get_or-replicate slots s 0 0 l in omega arith
