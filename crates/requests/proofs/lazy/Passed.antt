-- An act that order passes over, or does not: which ops a walk counts, and that a column follows order through them. Assumes nothing.
use mathlib.Core.Path.{◌≡◌, refl, sym, ◌∙◌, ap, subst}
use mathlib.Core.Bool.{Bool, true, false, ◌&&◌, true≢false}
use mathlib.Core.Logic.{◌↔◌, ◌⊎◌, inl, inr}
use mathlib.Core.List.{List, [], ◌∷◌, ◌++◌}
use Prim.Native.Nat.{ℕ, ◌<◌, zero-le}
use lib.Dec.{T, ltb}
use Rattle.theory.specs.order.Limits.{tasks}
use Rattle.theory.specs.order.Recording.{Op, join, fresh, Event, act, series, size_of, kind, is_access, no_more, ◌is◌}
use Rattle.theory.specs.fillings.Completion.{arrived}
use Rattle.theory.specs.acceptance.Table.{standing}
use Rattle.theory.specs.tables.Rows.{hub, released_row, acquired_row}
use Rattle.requests.specs.lazy.Walk.{HandsOver, takes, gives, looks, sets, starts, joins}
use Rattle.requests.specs.lazy.Fold.{walkable}
use Rattle.theory.proofs.acceptance.Rows.{ActAllowed}
use Rattle.theory.proofs.order.Ops.{Plain, Role, a_take, a_give, a_look, a_set, a_start, a_join, plain, role}
use Rattle.theory.proofs.order.Numbered.{or_true}
use Rattle.theory.proofs.order.Carry.{Node, due, Releases}
use Rattle.theory.proofs.fillings.Came.{Came, Newly}
use Rattle.theory.proofs.fillings.HasActed.{Acted, Ended, ended_act, Seen, arrived_restricts, starts_unseen}
use Rattle.theory.proofs.tables.Nodes.{row, InRange, due_in, row_below, row_one}
use Rattle.theory.proofs.tables.Follows.{Follows, OwnPart, Released-row, follows_act}
use Rattle.requests.proofs.lazy.Longer.{PairOf, pair_keeps, Stays, Asked}

-- Ops that a walk counts

pub none_over : {o : Op} {k n : ℕ} → Plain o → ¬ HandsOver (act o k n)
none_over x takes = true≢false x.not_take
none_over x gives = true≢false x.not_give
none_over x looks = true≢false x.not_look
none_over x sets = true≢false x.not_set
none_over x starts = true≢false x.not_start
none_over x joins = true≢false x.not_join

-- an op is one of them, or plain
pub data Walked (o : Op) (k n : ℕ) : Bool → Type 0 where
  walked : HandsOver (act o k n) → ¬ T (is_access o) → (o is fresh) ≡ false → Walked o k n true
  unwalked : Plain o → Walked o k n false

pub walked_of : (o : Op) (k n : ℕ) → Walked o k n (walkable (kind o))
walked_of o k n = by_role (role o)
  where
    by_role : {o : Op} → Role o → Walked o k n (walkable (kind o))
    by_role a_take = walked takes (λ t. t) refl
    by_role a_give = walked gives (λ t. t) refl
    by_role a_look = walked looks (λ t. t) refl
    by_role a_set = walked sets (λ t. t) refl
    by_role a_start = walked starts (λ t. t) refl
    by_role a_join = walked joins (λ t. t) refl
    by_role (plain x) = rw (x.not_take, x.not_give, x.not_look, x.not_set, x.not_start, x.not_join) (unwalked x)

-- an access is plain
pub access_plain : (o : Op) → T (is_access o) → Plain o
access_plain o a = by_role (role o) a
  where
    by_role : {o : Op} → Role o → T (is_access o) → Plain o
    by_role a_take a = elim a [ ]
    by_role a_give a = elim a [ ]
    by_role a_look a = elim a [ ]
    by_role a_set a = elim a [ ]
    by_role a_start a = elim a [ ]
    by_role a_join a = elim a [ ]
    by_role (plain x) a = x

-- One column over an act

module _ (o : Op) (k n : ℕ) (es : List Event) (hn : n < size_of (series o)) (seen : Seen es) (allowed : ActAllowed (standing es) (kind o) k n) where
  abbrev x : Event
  x = act o k n

  hk : k < tasks
  hk = allowed.fits.task_fits

  starts_anew : (m : ℕ) → Releases x (due m) → (m ≡ k) ⊎ (¬ Acted arrived m es)
  starts_anew = starts_unseen arrived_restricts seen allowed.starts_unseen

  -- a row that the act releases to in the recording as it arrived
  abbrev Rows : ℕ → Type 0
  Rows r = (r ≡ k) ⊎ ((r ≡ released_row (kind o) k n) ⊎ (r ≡ k))

  rows : {r : ℕ} → Released-row (ltb 0 0) k (released_row (kind o) k n) r → Rows r
  rows (inl e) = inl e
  rows (inr (inl e)) = inr (inl e)
  rows (inr (inr e)) = inr (inr (rw (or_true (ltb (released_row (kind o) k n) tasks)) at e))

  rows_back : {r : ℕ} → Rows r → Released-row (ltb 0 0) k (released_row (kind o) k n) r
  rows_back (inl e) = inl e
  rows_back (inr (inl e)) = inr (inl e)
  rows_back (inr (inr e)) = inl e

  module _ (u : ℕ) (f : Event) (flag : Bool) (flagged : n < tasks → (flag ≡ true) ↔ Acted arrived n (es ++ (x ∷ []))) (ended : Ended arrived (PairOf u f) es 0) where
    pub ended_on : Ended arrived (PairOf u f) (es ++ (x ∷ [])) 0
    ended_on = ended_act (pair_keeps x) starts_anew ended

    pub follows_flow : {K K' : ℕ → Type 0} → OwnPart K arrived (PairOf u f) (Stays u f x) es x k 0 →
        ((r : ℕ) → K' r ↔ (K r ⊎ (Rows r × (K k ⊎ K (acquired_row (kind o) k n (o is join && flag)))))) → Follows K' arrived (PairOf u f) (es ++ (x ∷ [])) 0
    follows_flow owned e = follows_act (pair_keeps x) starts_anew hk hn flagged ended owned (λ r. (λ h. to ((e r).0 h), λ d. (e r).1 (from d)))
      where
        to : {r : ℕ} {A B : Type 0} → A ⊎ (Rows r × B) → A ⊎ (Released-row (ltb 0 0) k (released_row (kind o) k n) r × B)
        to (inl h) = inl h
        to (inr (d, h)) = inr (rows_back d, h)

        from : {r : ℕ} {A B : Type 0} → A ⊎ (Released-row (ltb 0 0) k (released_row (kind o) k n) r × B) → A ⊎ (Rows r × B)
        from (inl h) = inl h
        from (inr (d, h)) = inr (rows d, h)

    -- an act that is plain passes nothing on
    pub follows_plain : {K : ℕ → Type 0} → Plain o → OwnPart K arrived (PairOf u f) (Stays u f x) es x k 0 → Follows K arrived (PairOf u f) (es ++ (x ∷ [])) 0
    follows_plain {K} z owned = follows_flow owned (λ r. (λ h. inl h, λ d. of d))
      where
        released : released_row (kind o) k n ≡ k
        released = rw (z.not_give, z.not_set, z.not_start)

        acquired : acquired_row (kind o) k n (o is join && flag) ≡ k
        acquired = rw (z.not_take, z.not_look, z.not_join)

        at : {r : ℕ} → Rows r → r ≡ k
        at (inl e) = e
        at (inr (inl e)) = e ∙ released
        at (inr (inr e)) = e

        own : K k ⊎ K (acquired_row (kind o) k n (o is join && flag)) → K k
        own (inl h) = h
        own (inr h) = subst K acquired h

        of : {r : ℕ} → K r ⊎ (Rows r × (K k ⊎ K (acquired_row (kind o) k n (o is join && flag)))) → K r
        of (inl h) = h
        of (inr (d, h)) = subst K (sym (at d)) (own h)

    -- the own part of an act that leaves the pair, and of one that is the pair
    pub stays_own : {K : ℕ → Type 0} → Stays u f x → Follows K arrived (PairOf u f) es 0 → OwnPart K arrived (PairOf u f) (Stays u f x) es x k 0
    stays_own st z = record { cells = λ m r. (λ h. inl (st, (z.cells m r).0 h), λ d. (z.cells m r).1 (of d)); hub = λ g. absurd g }
      where
        of : {m : Node} → (Stays u f x × Came arrived (PairOf u f) es 0 m) ⊎ (Newly (PairOf u f) es x 0 × (m ≡ due k)) → Came arrived (PairOf u f) es 0 m
        of (inl d) = d.1
        of (inr d) = absurd (st.0 (d.0.1.0.by, d.0.1.0.conflict))

    pub asked_own : {K : ℕ → Type 0} → Asked u f x → ((r : ℕ) → r < hub → K r ↔ (r ≡ k)) → OwnPart K arrived (PairOf u f) (Stays u f x) es x k 0
    asked_own g e = record { cells = λ m r. (λ h. inr (newly, row_one r (due_in hk) ((e (row m) (row_below r)).0 h)), λ d. (e (row m) (row_below r)).1 (of r d)); hub = λ w. absurd w }
      where
        newly : Newly (PairOf u f) es x 0
        newly = (zero-le, (record { by = g.0; conflict = g.1; since = no_more }, λ s. elim s [ ]))

        of : {m : Node} → InRange m → (Stays u f x × Came arrived (PairOf u f) es 0 m) ⊎ (Newly (PairOf u f) es x 0 × (m ≡ due k)) → row m ≡ k
        of r (inl d) = absurd (d.0.0 g)
        of r (inr d) = ap row d.1
