-- What the lazy reckoning keeps is right after each accepted record, if it was before. Assumes nothing.
use mathlib.Core.Path.{◌≡◌, refl, sym, ◌∙◌, ap, subst}
use mathlib.Core.Bool.{Bool, true, false, cond, not, ◌||◌, ◌&&◌, true≢false}
use mathlib.Core.Logic.{◌↔◌, ◌⊎◌, inl, inr, ◌≢◌}
use mathlib.Core.List.{List, [], ◌∷◌, ◌++◌}
use Prim.Native.Nat.{ℕ, suc, ◌+◌, ◌-◌, ◌<◌}
use native.Mathlib.Numerals.{add-one}
use native.Mathlib.Omega.{arith}
use borrow.Author.Tests.{ne_eqb}
use lib.Dec.{T, eqb}
use lib.ListN.{length, get_or}
use Rattle.theory.specs.declared.record.Record.{Record}
use Rattle.theory.specs.order.Limits.{tasks}
use Rattle.theory.specs.order.Recording.{Op, write, join, fresh, Event, act, lost, series, size_of, kind, numbered_kind, is_access, accesses, ActsIn, acts, ◌is◌}
use Rattle.theory.specs.order.Path.{HappensBefore, clashes, conflict, Empties, empties}
use Rattle.theory.specs.fillings.Completion.{bit, arrived, Named}
use Rattle.theory.specs.acceptance.Table.{standing}
use Rattle.theory.specs.history.History.{asker, ask_at, kind_clashes}
use Rattle.theory.specs.tables.Rows.{hub, acquired_row, released_row}
use Rattle.theory.specs.tables.Reckonings.{with_bit}
use Rattle.requests.specs.lazy.Walk.{HandsOver, ShortCircuit}
use Rattle.requests.specs.lazy.Fold.{Lazy, word_at, by_end, by_write, column, asker_on, noted, shortened, accessed, unfollowed, flowed, stepped, walked_over, of_variable, acted, keep_anew, arrived_now}
use Rattle.theory.proofs.basics.Reflects.{Reflects, right, wrong, by_test, equal, either}
use Rattle.theory.proofs.acceptance.Rows.{ActAllowed}
use Rattle.theory.proofs.order.Ops.{Plain, numbered_kind_kind, same_op, access_kind}
use Rattle.theory.proofs.order.Places.{Occurs}
use Rattle.theory.proofs.order.Tests.{some_snoc, snoc_some, snoc_last}
use Rattle.theory.proofs.fillings.Reach.{nobody_named}
use Rattle.theory.proofs.fillings.HasActed.{Acted, ended_mark, mark_came, came_mark, Seen}
use Rattle.theory.proofs.history.Numbers.{Ranged, asker_op}
use Rattle.theory.proofs.history.Slots.{clash_access}
use Rattle.theory.proofs.tables.Words.{with_bit_lem}
use Rattle.theory.proofs.tables.Nodes.{row_below, released_row_lem, released_in}
use Rattle.theory.proofs.tables.Follows.{Follows}
use Rattle.theory.proofs.verdicts.Latest.{Final}
use Rattle.requests.proofs.lazy.Columns.{flow_bit, flow_length, arrived_at, arrived_length, zero_bits, none_of_zero, unordered_test}
use Rattle.requests.proofs.lazy.Longer.{PairOf, pair_keeps, Stays, Asked, final_back, final_short, circuit_old, circuit_back, circuit_new}
use Rattle.requests.proofs.lazy.Tracks.{Has, Tracks, tracks_on, tracks_walked, tracks_anew, tracks_none, path_own}
use Rattle.requests.proofs.lazy.Kept.{Whole, Alike, alike, Begun, keep_acted, keep_whole, keep_own, keep_off, keep_other}
use Rattle.requests.proofs.lazy.Passed.{none_over, Walked, walked, unwalked, walked_of, ended_on, follows_flow, follows_plain, stays_own, asked_own}

-- what an act says

abbrev op_of_event : Event → Op
op_of_event (act o k n) = o
op_of_event (lost mask) = fresh

abbrev on_of_event : Event → ℕ
on_of_event (act o k n) = n
on_of_event (lost mask) = 0

abbrev task_of_lem : Event → ℕ
task_of_lem (act o k n) = k
task_of_lem (lost mask) = 0

module _ (p : Op) (t v : ℕ) (isa : T (is_access p)) (ht : t < tasks) where
  -- The question, and what it asks on each side

  abbrev pub asked_for : Record
  asked_for = record { kind = kind p; task = t; on = v }

  abbrev pub asked_by : ℕ → Op
  asked_by side = cond (eqb side by_end) p write

  abbrev pub asking : ℕ → Event
  asking side = act (asked_by side) t v

  -- what is kept is right of a recording
  pub record Lazily (es : List Event) (s : Lazy) : Type 0 where
    pub whole : Whole s
    pub acting : (u : ℕ) → u < tasks → (bit s.walk.acted u ≡ true) ↔ Acted arrived u es
    pub tracks : (side u : ℕ) → side < 2 → u < tasks → Tracks t v u (asking side) (column side u) es s

  asker_side : (side : ℕ) → asker (asker_on asked_for side) ≡ asked_by side
  asker_side side = decided (eqb side by_end)
    where
      decided : (b : Bool) → asker (cond b (ask_at (kind p)) (ask_at (kind write))) ≡ cond b p write
      decided true = asker_op p isa
      decided false = asker_op write tt

  clash_side : (o : Op) (side : ℕ) → kind_clashes (numbered_kind (kind o)) (asker (asker_on asked_for side)) ≡ clashes o (asked_by side)
  clash_side o side = rw (numbered_kind_kind o, asker_side side)

  -- which acts are asked for, and which empty

  asked_of : (side : ℕ) {u k n : ℕ} {o : Op} → Asked u (asking side) (act o k n) → (u ≡ k) × (n ≡ v) × (k ≢ t) × T (clashes o (asked_by side))
  asked_of side (acts, conflict d c) = (refl, refl, d, c)

  emptied_of : (side : ℕ) {k n : ℕ} {o : Op} → Empties (act o k n) (asking side) → (o ≡ fresh) × (n ≡ v)
  emptied_of side empties = (refl, refl)

  -- a record that is no write of the acting task cuts no walk short
  same_known : {u c : ℕ} {f : Event} {es : List Event} {s : Lazy} (s' : Lazy) (x : Event) → ¬ (x ≡ act write t v) → Tracks t v u f c es s → bit s'.walk.known c ≡ bit s.walk.known c →
      T (bit s'.walk.known c) ↔ ((i : ℕ) × Final u f es i × ShortCircuit (es ++ (x ∷ [])) t v i (suc (length es)))
  same_known {es = es} s' x apart y e = (
    λ h. let (i, a, d) = y.known.0 (subst T e h) in (i, a, circuit_old es x d),
    λ d. subst T (sym e) (y.known.1 (d.0, d.1, of (circuit_back es x d.2))),
  )
    where
      of : {i : ℕ} → ShortCircuit es t v i (length es) ⊎ ((x ≡ act write t v) × ((u m : ℕ) → Final u x es m → HappensBefore (es ++ (x ∷ [])) m (length es))) → ShortCircuit es t v i (length es)
      of (inl d) = d
      of (inr d) = absurd (apart d.0)

  module _ (es : List Event) (s : Lazy) (y : Lazily es s) where
    -- Marks

    pub lazily_mark : (mask : ℕ) → Lazily (es ++ (lost mask ∷ [])) s
    lazily_mark mask =
        record {
          whole = y.whole;
          acting = λ u h. (λ e. snoc_some (lost mask) ((y.acting u h).0 e), λ a. (y.acting u h).1 (of (some_snoc es a)));
          tracks = λ side u hs hu. on side u (y.tracks side u hs hu);
        }
      where
        of : {u : ℕ} → Acted arrived u es ⊎ Named 0 u → Acted arrived u es
        of (inl a) = a
        of (inr n) = absurd (nobody_named n)

        no_act : {u : ℕ} → ¬ ActsIn u (lost mask)
        no_act a = elim a [ ]

        no_empty : {f : Event} → ¬ Empties (lost mask) f
        no_empty a = elim a [ ]

        no_over : ¬ HandsOver (lost mask)
        no_over a = elim a [ ]

        no_write : ¬ (lost mask ≡ act write t v)
        no_write e = subst is_mark_lem e tt
          where
            is_mark_lem : Event → Type 0
            is_mark_lem (act o k n) = ⊥
            is_mark_lem (lost m) = Unit

        on : (side u : ℕ) → Tracks t v u (asking side) (column side u) es s → Tracks t v u (asking side) (column side u) (es ++ (lost mask ∷ [])) s
        on side u z =
            let st : Stays u (asking side) (lost mask) = (λ a. no_act a.0, no_empty) in
            tracks_on (lost mask) ht z st no_over (alike (column side u) s).untouched (ended_mark mask (pair_keeps (lost mask)) st z.ended)
            (λ i a. let w = z.follows i a in
            record {
              cells = λ n r. (λ h. came_mark mask (pair_keeps (lost mask)) refl st ((w.cells n r).0 h), λ d. (w.cells n r).1 (mark_came mask (pair_keeps (lost mask)) refl d));
              hub = λ g. absurd g;
              ended = ended_mark mask (pair_keeps (lost mask)) st w.ended;
            })
            (same_known s (lost mask) no_write z refl)

    -- Acts

    module _ (o : Op) (k n : ℕ) (hn : n < size_of (series o)) (seen : Seen es) (ranged : Ranged es) (allowed : ActAllowed (standing es) (kind o) k n) where
      abbrev x : Event
      x = act o k n

      hk : k < tasks
      hk = allowed.fits.task_fits

      -- who has acted
      acted_now : (u : ℕ) → u < tasks → (bit (with_bit k s.walk.acted) u ≡ true) ↔ Acted arrived u (es ++ (x ∷ []))
      acted_now u hu = rw (with_bit_lem k u s.walk.acted (omega arith) (omega arith)) (decided (equal u k))
        where
          decided : {b : Bool} → Reflects (u ≡ k) b → (cond b true (bit s.walk.acted u) ≡ true) ↔ Acted arrived u (es ++ (x ∷ []))
          decided (right e) = (λ _. snoc_last es x e, λ _. refl)
          decided (wrong d) = (λ e. snoc_some x ((y.acting u hu).0 e), λ a. (y.acting u hu).1 (of (some_snoc es a)))
            where
              of : Acted arrived u es ⊎ (u ≡ k) → Acted arrived u es
              of (inl a) = a
              of (inr e) = absurd (d e)

      abbrev flag : Bool
      flag = bit (with_bit k s.walk.acted) n

      flagged : n < tasks → (flag ≡ true) ↔ Acted arrived n (es ++ (x ∷ []))
      flagged h = acted_now n h

      -- a plain act that leaves the pair of a column, which is as it was
      leaves : (side u : ℕ) → side < 2 → u < tasks → Plain o → Stays u (asking side) x → ¬ (x ≡ act write t v) → {s' : Lazy} → Alike (column side u) s s' →
          Tracks t v u (asking side) (column side u) (es ++ (x ∷ [])) s'
      leaves side u hs hu z st apart {s'} e =
          let w = y.tracks side u hs hu in
          tracks_on x ht w st (none_over z) e.untouched (ended_on o k n es hn seen allowed u (asking side) flag flagged w.ended)
          (λ i a.
          follows_plain o k n es hn seen allowed u (asking side) flag flagged w.ended z
          (stays_own o k n es hn seen allowed u (asking side) flag flagged w.ended st (w.follows i a)))
          (same_known s' x apart w e.known)

      -- A plain act that touches no column

      quiet : Plain o → ((side u : ℕ) → Stays u (asking side) x) → ¬ (x ≡ act write t v) → Lazily (es ++ (x ∷ [])) (noted k s)
      quiet z st apart =
          record {
            whole = record { nodes = y.whole.nodes; counts = y.whole.counts };
            acting = acted_now;
            tracks = λ side u hs hu. leaves side u hs hu z (st side u) apart (record { untouched = record { pairs = refl; nodes = λ r h. refl; counts = refl; walked = refl }; known = refl });
          }

      -- A fresh of the variable

      empties_all : Plain o → o ≡ fresh → n ≡ v → Lazily (es ++ (x ∷ [])) (unfollowed (noted k s))
      empties_all z e d =
          record {
            whole = record { nodes = y.whole.nodes; counts = y.whole.counts };
            acting = acted_now;
            tracks = λ side u hs hu.
                let w = y.tracks side u hs hu in
                tracks_none es x (ended_on o k n es hn seen allowed u (asking side) flag flagged w.ended) (λ i a. gone side u (final_back x es a))
                (λ h. subst T (none_of_zero (column side u)) h) (λ h. subst T (none_of_zero (column side u)) h);
          }
        where
          empty : (side : ℕ) → Empties x (asking side)
          empty side = rw (e, d) empties

          gone : (side u : ℕ) {i : ℕ} → (Stays u (asking side) x × Final u (asking side) es i) ⊎ ((i ≡ length es) × Asked u (asking side) x) → ⊥
          gone side u (inl (st, a)) = st.1 (empty side)
          gone side u (inr (q, a)) = subst (λ (b : Op). ¬ T (is_access b)) (sym e) (λ h. h) (clash_access o (asked_by side) (asked_of side a).3)

      -- An access of another task to the variable

      begins_own : Plain o → (o is fresh) ≡ false → n ≡ v → k ≢ t → Lazily (es ++ (x ∷ [])) (keep_anew asked_for (kind o) k (noted k s))
      begins_own z not-fresh d apart =
          record { whole = keep_whole asked_for (kind o) k hk here; acting = λ u hu. rw same_acted (acted_now u hu); tracks = λ side u hs hu. decided side u hs hu (equal u k) }
        where
          here : Whole (noted k s)
          here = record { nodes = y.whole.nodes; counts = y.whole.counts }

          same_acted : (keep_anew asked_for (kind o) k (noted k s)).walk.acted ≡ with_bit k s.walk.acted
          same_acted = keep_acted asked_for (kind o) k (noted k s)

          from_noted : {c : ℕ} {s' : Lazy} → Alike c (noted k s) s' → Alike c s s'
          from_noted e =
              record {
                untouched = record { pairs = e.untouched.pairs; nodes = e.untouched.nodes; counts = e.untouched.counts; walked = e.untouched.walked };
                known = e.known;
              }

          no_write : ¬ (x ≡ act write t v)
          no_write e = apart (ap task_of_lem e)

          no_empty : (side : ℕ) → ¬ Empties x (asking side)
          no_empty side e = true≢false (sym (is_fresh (emptied_of side e).0) ∙ not-fresh)
            where
              is_fresh : o ≡ fresh → (o is fresh) ≡ true
              is_fresh q = rw q

          anew : (side u : ℕ) → side < 2 → u < tasks → u ≡ k → T (clashes o (asked_by side)) →
              Tracks t v u (asking side) (column side u) (es ++ (x ∷ [])) (keep_anew asked_for (kind o) k (noted k s))
          anew side u hs hu e c =
              tracks_anew es x (ended_on o k n es hn seen allowed u (asking side) flag flagged w.ended) asks (subst T (sym b.pairs) tt) (λ h. subst T b.known h)
              (λ h. away (subst T (b.nodes t (omega arith)) h)) b.counts
              (follows_plain o k n es hn seen allowed u (asking side) flag flagged w.ended z
              (asked_own o k n es hn seen allowed u (asking side) flag flagged w.ended asks (λ r h. at r (b.nodes r h))))
            where
              w : Tracks t v u (asking side) (column side u) es s
              w = y.tracks side u hs hu

              b : Begun (column side u) k (keep_anew asked_for (kind o) k (noted k s))
              b = subst (λ (i : ℕ). Begun (column side i) k (keep_anew asked_for (kind o) k (noted k s))) (sym e) (keep_own asked_for (kind o) k hk here side hs (subst T (sym (clash_side o side)) c))

              asks : Asked u (asking side) x
              asks = rw (e, d) (acts, conflict apart c)

              away : ¬ T (eqb t k)
              away h = subst T (ne_eqb t k (λ i. apart (sym i))) h

              at : (r : ℕ) {bit' : Bool} → bit' ≡ eqb r k → T bit' ↔ (r ≡ k)
              at r i = rw i (decide (equal r k))
                where
                  decide : {c : Bool} → Reflects (r ≡ k) c → T c ↔ (r ≡ k)
                  decide (right q) = (λ _. q, λ _. tt)
                  decide (wrong m) = (λ h. absurd h, λ q. absurd (m q))

          decided : (side u : ℕ) → side < 2 → u < tasks → {b : Bool} → Reflects (u ≡ k) b → Tracks t v u (asking side) (column side u) (es ++ (x ∷ [])) (keep_anew asked_for (kind o) k (noted k s))
          decided side u hs hu (wrong m) =
              leaves side u hs hu z ((λ a. m (asked_of side a).0), no_empty side) no_write (from_noted (keep_other asked_for (kind o) k hk here side u hs hu m))
          decided side u hs hu (right e) = clash (by_test (clashes o (asked_by side)))
            where
              clash : {b : Bool} → Reflects (T (clashes o (asked_by side))) b → Tracks t v u (asking side) (column side u) (es ++ (x ∷ [])) (keep_anew asked_for (kind o) k (noted k s))
              clash (right c) = anew side u hs hu e c
              clash (wrong c) =
                  leaves side u hs hu z ((λ a. c (asked_of side a).3), no_empty side) no_write
                  (from_noted (subst (λ (i : ℕ). Alike (column side i) (noted k s) (keep_anew asked_for (kind o) k (noted k s))) (sym e)
                  (keep_off asked_for (kind o) k hk here side hs (λ i. c (subst T (clash_side o side) i)))))

      -- A write of the variable by the acting task

      own_write : Plain o → o ≡ write → k ≡ t → n ≡ v → Lazily (es ++ (x ∷ [])) (shortened (word_at s.nodes t) (noted k s))
      own_write z eo ek en =
          record {
            whole = record { nodes = y.whole.nodes; counts = y.whole.counts };
            acting = acted_now;
            tracks = λ side u hs hu.
                let w = y.tracks side u hs hu in
                tracks_on x ht w (stays side u) (none_over z) (record { pairs = refl; nodes = λ r h. refl; counts = refl; walked = refl })
                (ended_on o k n es hn seen allowed u (asking side) flag flagged w.ended)
                (λ i a.
                follows_plain o k n es hn seen allowed u (asking side) flag flagged w.ended z
                (stays_own o k n es hn seen allowed u (asking side) flag flagged w.ended (stays side u) (w.follows i a)))
                (cut side u hs hu (unordered_test s.walk.pairs (word_at s.nodes t)));
          }
        where
          event : x ≡ act write t v
          event = rw (eo, ek, en)

          stays : (side u : ℕ) → Stays u (asking side) x
          stays side u = (λ a. (asked_of side a).2 ek, λ e. subst (λ (b : Op). ¬ (b ≡ fresh)) (sym eo) (λ i. write_fresh i) (emptied_of side e).0)
            where
              write_fresh : ¬ (write ≡ fresh)
              write_fresh i = true≢false (ap (λ (b : Op). b is write) i)

          -- a path to it is order that has come to the acting task
          path : (u : ℕ) (hu : u < tasks) {i : ℕ} → Final u (asking by_write) es i → HappensBefore (es ++ (x ∷ [])) i (length es) ↔ Has (column by_write u) s.nodes t
          path u hu {i} a =
              subst (λ (e : Event). HappensBefore (es ++ (e ∷ [])) i (length es) ↔ Has (column by_write u) s.nodes t) (sym event)
              (path_own v ht (y.tracks by_write u (omega arith) hu) (subst Plain eo z) a)

          as_write : (u : ℕ) {i : ℕ} → Final u x es i → Final u (asking by_write) es i
          as_write u {i} a = subst (λ (e : Event). Final u e es i) event a

          in_range_lem : {u : ℕ} {i : ℕ} → Final u x es i → u < tasks
          in_range_lem a = of a.against.by a.occurs
            where
              of : {u i : ℕ} {e : Event} {after : List Event} → ActsIn u e → Occurs es i e after → u < tasks
              of acts o = (ranged.in_range_lem _ _ _ _ _ o).0

          cut : (side u : ℕ) → side < 2 → u < tasks → {b : Bool} →
              Reflects ((m : ℕ) × (m < tasks) × T (bit s.walk.pairs (column by_write m)) × (¬ T (bit (word_at s.nodes t) (column by_write m)))) b →
              T (bit (cond b s.walk.known s.walk.pairs) (column side u)) ↔ ((i : ℕ) × Final u (asking side) es i × ShortCircuit (es ++ (x ∷ [])) t v i (suc (length es)))
          cut side u hs hu (right (m, hm, pair, none)) = (
            λ h. let (i, a, d) = w.known.0 h in (i, a, circuit_old es x d),
            λ d. w.known.1 (d.0, d.1, of (circuit_back es x d.2)),
          )
            where
              w : Tracks t v u (asking side) (column side u) es s
              w = y.tracks side u hs hu

              of : {i : ℕ} → ShortCircuit es t v i (length es) ⊎ ((x ≡ act write t v) × ((u m : ℕ) → Final u x es m → HappensBefore (es ++ (x ∷ [])) m (length es))) → ShortCircuit es t v i (length es)
              of (inl d) = d
              of (inr (_, f)) =
                  let (i, a) = (y.tracks by_write m (omega arith) hm).pair.0 pair in
                  absurd (none ((path m hm a).0 (f m i (subst (λ (e : Event). Final m e es i) (sym event) a))))
          cut side u hs hu (wrong none) = (
            λ h. let (i, a) = w.pair.0 h in (i, a, circuit_new es x (final_short a) event (λ m j b. ordered m j b)),
            λ d. w.pair.1 (d.0, d.1),
          )
            where
              w : Tracks t v u (asking side) (column side u) es s
              w = y.tracks side u hs hu

              ordered : (m j : ℕ) → Final m x es j → HappensBefore (es ++ (x ∷ [])) j (length es)
              ordered m j b = (path m hm (as_write m b)).1 (decided (by_test (bit (word_at s.nodes t) (column by_write m))))
                where
                  hm : m < tasks
                  hm = in_range_lem b

                  decided : {c : Bool} → Reflects (Has (column by_write m) s.nodes t) c → Has (column by_write m) s.nodes t
                  decided (right h) = h
                  decided (wrong f) = absurd (none (m, hm, (y.tracks by_write m (omega arith) hm).pair.1 (j, as_write m b), f))

      -- A record that is walked

      abbrev after : List ℕ
      after = flowed (with_bit k s.walk.acted) (kind o) k n s.nodes

      walks_on : HandsOver x → ¬ T (is_access o) → (o is fresh) ≡ false → Lazily (es ++ (x ∷ [])) (walked_over asked_for (kind o) k n (noted k s))
      unfolding walked_over
      walks_on over no_access not-fresh =
          record {
            whole = record { nodes = sized (eqb s.walk.pairs 0); counts = arrived_length _ _ _ s.counts ∙ y.whole.counts };
            acting = acted_now;
            tracks = λ side u hs hu. on side u hs hu;
          }
        where
          sized : (b : Bool) → length (cond b s.nodes after) ≡ hub
          sized true = y.whole.nodes
          sized false = flow_length (with_bit k s.walk.acted) (kind o) k n s.nodes ∙ y.whole.nodes

          released : released_row (kind o) k n < hub
          released = rw (released_row_lem o k n) (row_below (released_in o hk hn))

          flows : (c r : ℕ) → Has c after r ↔ (Has c s.nodes r ⊎ (((r ≡ k) ⊎ ((r ≡ released_row (kind o) k n) ⊎ (r ≡ k))) × (Has c s.nodes k ⊎ Has c s.nodes (acquired_row (kind o) k n (o is join && flag)))))
          flows c r = flow_bit (with_bit k s.walk.acted) (kind o) k n s.nodes r c y.whole.nodes hk released

          no_write : ¬ (x ≡ act write t v)
          no_write e = no_access (subst (λ (b : Op). T (is_access b)) (sym (ap op_of_event e)) tt)

          on : (side u : ℕ) → side < 2 → u < tasks → Tracks t v u (asking side) (column side u) (es ++ (x ∷ [])) (stepped asked_for (cond (eqb s.walk.pairs 0) s.nodes after) (noted k s))
          on side u hs hu =
              tracks_walked x ht w st (stepped asked_for (cond (eqb s.walk.pairs 0) s.nodes after) (noted k s)) refl over (λ i a h. kept (eqb s.walk.pairs 0) h) refl refl
              (add-one s.walk.walked) counted (λ i a. follows i a (eqb s.walk.pairs 0) refl) (ended_on o k n es hn seen allowed u (asking side) flag flagged w.ended) no_write
            where
              w : Tracks t v u (asking side) (column side u) es s
              w = y.tracks side u hs hu

              st : Stays u (asking side) x
              st = (λ a. no_access (clash_access o (asked_by side) (asked_of side a).3), λ e. true≢false (sym (is_fresh (emptied_of side e).0) ∙ not-fresh))
                where
                  is_fresh : o ≡ fresh → (o is fresh) ≡ true
                  is_fresh q = rw q

              kept : (b : Bool) → Has (column side u) s.nodes t → Has (column side u) (cond b s.nodes after) t
              kept true h = h
              kept false h = (flows (column side u) t).1 (inl h)

              counted : get_or (arrived_now (word_at s.nodes t) (word_at (cond (eqb s.walk.pairs 0) s.nodes after) t) (s.walk.walked + 1) s.counts) (column side u) 0
                  ≡ cond (bit (word_at (cond (eqb s.walk.pairs 0) s.nodes after) t) (column side u) && not (bit (word_at s.nodes t) (column side u)))
                  (suc s.walk.walked - get_or s.counts (column side u) 0) (get_or s.counts (column side u) 0)
              counted = rw (add-one s.walk.walked) (arrived_at _ _ (suc s.walk.walked) s.counts (column side u) y.whole.counts (omega arith))

              follows : (i : ℕ) → Final u (asking side) es i → (b : Bool) → eqb s.walk.pairs 0 ≡ b →
                  Follows (Has (column side u) (cond b s.nodes after)) arrived (PairOf u (asking side)) (es ++ (x ∷ [])) 0
              follows i a true e = absurd (subst T (zero_bits s.walk.pairs e (column side u)) (w.pair.1 (i, a)))
              follows i a false e =
                  follows_flow o k n es hn seen allowed u (asking side) flag flagged w.ended
                  (stays_own o k n es hn seen allowed u (asking side) flag flagged w.ended st (w.follows i a)) (flows (column side u))

      -- Any act

      pub lazily_act : Lazily (es ++ (x ∷ [])) (acted asked_for (kind o) k n s)
      unfolding acted accessed
      lazily_act = by_walk (walked_of o k n)
        where
          no_clash : ¬ T (is_access o) → (side u : ℕ) → ¬ Asked u (asking side) x
          no_clash m side u a = m (clash_access o (asked_by side) (asked_of side a).3)

          access_write : o ≡ write → T (is_access o)
          access_write q = subst (λ (b : Op). T (is_access b)) (sym q) tt

          -- an access or a fresh of the variable
          of_variable_lem : Plain o → n ≡ v → {f : Bool} → Reflects (o ≡ fresh) f → {own : Bool} → Reflects (k ≡ t) own → {w : Bool} → Reflects (o ≡ write) w →
              Lazily (es ++ (x ∷ []))
              (cond f (unfollowed (noted k s)) (cond own (cond w (shortened (word_at s.nodes k) (noted k s)) (noted k s)) (keep_anew asked_for (kind o) k (noted k s))))
          of_variable_lem z e (right f) own w = empties_all z f e
          of_variable_lem z e (wrong f) (wrong m) w = begins_own z (is_false f) e m
            where
              is_false : ¬ (o ≡ fresh) → (o is fresh) ≡ false
              is_false m = decided (same_op o fresh)
                where
                  decided : {b : Bool} → Reflects (o ≡ fresh) b → b ≡ false
                  decided (right q) = absurd (m q)
                  decided (wrong _) = refl
          of_variable_lem z e (wrong f) (right m) (right w) =
              subst (λ (i : ℕ). Lazily (es ++ (x ∷ [])) (shortened (word_at s.nodes i) (noted k s))) (sym m) (own_write z w m e)
          of_variable_lem z e (wrong f) (right m) (wrong w) = quiet z (λ side u. (λ a. (asked_of side a).2 m, λ a. f (emptied_of side a).0)) (λ a. w (ap op_of_event a))

          -- a plain act
          plain_act : Plain o → {a : Bool} → Reflects (T (is_access o) ⊎ (o ≡ fresh)) a → {b : Bool} → Reflects (n ≡ v) b →
              Lazily (es ++ (x ∷ []))
              (cond a
              (cond b
              (cond (o is fresh) (unfollowed (noted k s)) (cond (eqb k t) (cond (o is write) (shortened (word_at s.nodes k) (noted k s)) (noted k s)) (keep_anew asked_for (kind o) k (noted k s))))
              (noted k s))
              (noted k s))
          plain_act z (wrong m) b =
              quiet z (λ side u. (no_clash (λ h. m (inl h)) side u, λ a. m (inr (emptied_of side a).0))) (λ a. m (inl (access_write (ap op_of_event a))))
          plain_act z (right m) (wrong d) = quiet z (λ side u. (λ a. d (asked_of side a).1, λ a. d (emptied_of side a).1)) (λ a. d (ap on_of_event a))
          plain_act z (right m) (right d) = of_variable_lem z d (same_op o fresh) (equal k t) (same_op o write)

          by_walk : {b : Bool} → Walked o k n b → Lazily (es ++ (x ∷ [])) (cond b (walked_over asked_for (kind o) k n (noted k s)) (cond (accesses (kind o) || o is fresh) (of_variable asked_for (kind o) k n (noted k s)) (noted k s)))
          by_walk (walked h m f) = walks_on h m f
          by_walk (unwalked z) = rw (access_kind o) (plain_act z (either (by_test (is_access o)) (same_op o fresh)) (equal n v))
