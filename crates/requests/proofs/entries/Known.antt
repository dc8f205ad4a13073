-- Which Races are known, and the partner of those that are not. Assumes nothing.
use mathlib.Core.Path.{◌≡◌, refl, sym, ◌∙◌, ap, subst}
use mathlib.Core.Bool.{Bool, true, false, cond, not, ◌&&◌, true≢false}
use mathlib.Core.Logic.{◌↔◌, ◌⊎◌, inl, inr, ◌≢◌}
use mathlib.Core.List.{List, [], ◌∷◌, ◌++◌}
use Prim.Native.Nat.{ℕ, zero, suc, ◌+◌, ◌*◌, ◌≤◌, ◌<◌}
use native.Mathlib.Omega.{arith}
use borrow.Author.Tests.{lt-ltb}
use lib.Dec.{T, ltb}
use lib.ListN.{length, get_or, set}
use lib.Seq.{get_or-set_other}
use Rattle.theory.specs.declared.record.Record.{Record}
use Rattle.theory.specs.declared.state.State.{State}
use Rattle.theory.specs.declared.state.Stepped.{Stepped}
use Rattle.theory.specs.order.Limits.{tasks, variables, entries}
use Rattle.theory.specs.order.Recording.{Op, Event, act, ActsIn, acts, is_access, kind, event_of, accesses}
use Rattle.theory.specs.order.Path.{Conflict, conflict, Empties, empties}
use Rattle.theory.specs.fillings.Completion.{bit, full, filling, fill_with}
use Rattle.theory.specs.history.History.{latest_number}
use Rattle.theory.specs.tables.Rows.{cell, acted_row}
use Rattle.theory.specs.tables.Reckonings.{clock_own, next_clocks, clock_apart, mask_of, lowest_task}
use Rattle.theory.specs.acceptance.Table.{refusal, append_unless, recording, standing}
use Rattle.theory.specs.feeding.Step.{next_number, fresh_control, fresh_state, step_unless_as}
use Rattle.theory.specs.skipping.Demands.{plain_step_of}
use Rattle.theory.specs.feeding.Feeding.{by_clocks, after_all}
use Rattle.theory.specs.totals.Totals.{entries_at}
use Rattle.requests.specs.entries.Table.{paired_at, entry_count, paired_with, open_tasks, excuse_of, tables_excuse, excuse}
use Rattle.requests.specs.entries.Known.{Fault, AllFit, paired_from, paired, entered_all, start_with, Reported, FaultsKnown}
use Rattle.theory.specs.verdicts.Verdict.{Latest, ApartInAll}
use Rattle.theory.proofs.basics.Reflects.{Reflects, right, wrong, equal, at_most}
use Rattle.theory.proofs.order.Ops.{no_mark, access_tests, event_act, on_series, access_on}
use Rattle.theory.proofs.order.Places.{Occurs}
use Rattle.theory.proofs.order.Leads.{Leads}
use Rattle.theory.proofs.fillings.Bounds.{apart_in_all}
use Rattle.theory.proofs.history.Slots.{ExactHistory}
use Rattle.theory.proofs.history.Numbers.{number_final, final_number}
use Rattle.theory.proofs.tables.Rows.{same_max}
use Rattle.theory.proofs.tables.Ranges.{access_onward}
use Rattle.theory.proofs.tables.ClockTables.{ExactClocks}
use Rattle.theory.proofs.tables.Reckoned.{sound, complete, clock_tells}
use Rattle.theory.proofs.verdicts.Search.{Candidate}
use Rattle.theory.proofs.verdicts.Latest.{Final, final_latest, latest_final}
use Rattle.theory.proofs.verdicts.Examples.{ends_middle}
use Rattle.theory.proofs.acceptance.Rows.{ActAllowed}
use Rattle.theory.proofs.acceptance.ControlTable.{fresh_control_lem}
use Rattle.theory.proofs.acceptance.Standings.{same_refusal}
use Rattle.theory.proofs.totals.Kept.{fresh_control_cell}
use Rattle.theory.proofs.tables.Bits.{mask_none, mask_lowest}
use Rattle.theory.proofs.feeding.Simulation.{Shape, an_act, a_mark, shape_of, Represents, base_control, fresh_base, after_all_lem, clocks_simulate, same_step}
use Rattle.theory.proofs.feeding.Asked.{access_op}
use Rattle.requests.proofs.lazy.Columns.{none_of_zero}
use Rattle.requests.proofs.entries.Kept.{cell_kept}
use Rattle.requests.proofs.entries.Taken.{TakenAll, taken_all}
use Rattle.requests.proofs.lazy.Longer.{Stays, Asked, final_old, final_back}

-- Before the access is fed: a task is apart just where its latest conflicting access has no path to it in any completion

module _ {es : List Event} {b last : List ℕ} (p : Op) {t v u : ℕ} (h : ExactHistory es last) (x : ExactClocks full es b) (isa : T (is_access p)) (ht : t < tasks) (hv : v < variables) (hu : u < tasks) where
  candidate_apart : {i : ℕ} → Candidate (filling full) (act p t v) es u i → Latest (es ++ (act p t v ∷ [])) u i (length es) × ApartInAll (es ++ (act p t v ∷ [])) (length es) i
  candidate_apart c = (
    final_latest (ends_middle es []) (record { x = c.e; after = c.after; occurs = c.occurs; against = c.apart.against; none = c.apart.none }),
    of c.apart.against.by c.occurs c.apart.unordered,
  )
    where
      of : {i : ℕ} {e : Event} {after : List Event} → ActsIn u e → Occurs es i e after → ¬ Leads e (fill_with (filling full) after) (act p t v) → ApartInAll (es ++ (act p t v ∷ [])) (length es) i
      of acts o n = (apart_in_all (ends_middle es []) o).1 n

  pub apart_told : T (clock_apart b last (kind p) t v u) ↔ ((i : ℕ) × Latest (es ++ (act p t v ∷ [])) u i (length es) × ApartInAll (es ++ (act p t v ∷ [])) (length es) i × (latest_number last (kind p) v u ≡ suc i))
  apart_told = (
    λ a. let (i, c, n) = sound p (clock_tells p h ht hv hu x) h isa hv hu a in let (l, q) = candidate_apart c in (i, l, q, n),
    λ d. complete p (clock_tells p h ht hv hu x) h isa hv hu (from (latest_final (ends_middle es []) d.1) d.2),
  )
    where
      from : {i : ℕ} → Final u (act p t v) es i → ApartInAll (es ++ (act p t v ∷ [])) (length es) i → Candidate (filling full) (act p t v) es u i
      from f q = record { e = f.x; after = f.after; occurs = f.occurs; apart = record { against = f.against; none = f.none; unordered = of f.against.by f.occurs q } }
        where
          of : {i : ℕ} {e : Event} {after : List Event} → ActsIn u e → Occurs es i e after → ApartInAll (es ++ (act p t v ∷ [])) (length es) i → ¬ Leads e (fill_with (filling full) after) (act p t v)
          of acts o q = (apart_in_all (ends_middle es []) o).0 q

-- Once it is fed nothing of that has changed

module _ {es : List Event} (b : List ℕ) {last last' : List ℕ} (p : Op) {t v : ℕ} (number : ℕ) (h : ExactHistory es last) (h' : ExactHistory (es ++ (act p t v ∷ [])) last') (isa : T (is_access p)) (ht : t < tasks)
    (hv : v < variables) where
  -- the access is no pair of another task's, and empties nothing
  stays : {u : ℕ} → u ≢ t → Stays u (act p t v) (act p t v)
  stays {u} n = (λ a. n (asked a.0), λ e. empty e isa)
    where
      asked : {u : ℕ} → ActsIn u (act p t v) → u ≡ t
      asked acts = refl

      empty : {p q : Op} {t u v w : ℕ} → Empties (act p t v) (act q u w) → T (is_access p) → ⊥
      empty empties a = a

  same_number : (u : ℕ) → u < tasks → u ≢ t → latest_number last' (kind p) v u ≡ latest_number last (kind p) v u
  same_number u hu n = by (latest_number last (kind p) v u) refl
    where
      back : {i : ℕ} → Final u (act p t v) (es ++ (act p t v ∷ [])) i → Final u (act p t v) es i
      back a = of (final_back (act p t v) es a)
        where
          of : {i : ℕ} → (Stays u (act p t v) (act p t v) × Final u (act p t v) es i) ⊎ ((i ≡ length es) × Asked u (act p t v) (act p t v)) → Final u (act p t v) es i
          of (inl (_, f)) = f
          of (inr (_, q)) = absurd ((stays n).0 q)

      none : (m : ℕ) → latest_number last' (kind p) v u ≡ m → latest_number last (kind p) v u ≡ 0 → latest_number last' (kind p) v u ≡ 0
      none zero e z = e
      none (suc i) e z = let q = final_number h isa hv hu n (back (number_final h' isa hv hu n e)) in absurd (omega arith)

      by : (m : ℕ) → latest_number last (kind p) v u ≡ m → latest_number last' (kind p) v u ≡ latest_number last (kind p) v u
      by zero e = none (latest_number last' (kind p) v u) refl e ∙ sym e
      by (suc i) e = final_number h' isa hv hu n (final_old (act p t v) (stays n) (number_final h isa hv hu n e)) ∙ sym e

  same_cell : (u : ℕ) → u < tasks → u ≢ t → cell tasks (next_clocks full (kind p) t v number b) t u ≡ cell tasks b t u
  same_cell u hu n =
      rw (no_mark p, ← access_onward same_max tasks true (kind p) t v (clock_own t number b) (access_tests p isa) ht)
      (get_or-set_other (set b (t * tasks + t) number) (acted_row * tasks + t) (t * tasks + u) 1 0 (λ e. omega arith) ∙ get_or-set_other b (t * tasks + t) (t * tasks + u) number 0 (λ e. n (omega arith)))

  pub same_apart : (u : ℕ) → u < tasks → u ≢ t → clock_apart (next_clocks full (kind p) t v number b) last' (kind p) t v u ≡ clock_apart b last (kind p) t v u
  same_apart u hu n = rw (same_cell u hu n, same_number u hu n)

-- The tasks that are open

-- a test of tasks that tells of each whether it is open
module _ (Open : ℕ → Type 0) (test : ℕ → Bool) (tells : (u : ℕ) → u < tasks → T (test u) ↔ Open u) where
  pub none_open : mask_of test ≡ 0 → (u : ℕ) → u < tasks → ¬ Open u
  none_open e u hu o = subst T (mask_none test e u hu) ((tells u hu).1 o)

  pub lowest_open : ¬ (mask_of test ≡ 0) → Open (lowest_task (mask_of test)) × (lowest_task (mask_of test) < tasks) × ((u : ℕ) → u < tasks → Open u → lowest_task (mask_of test) ≤ u)
  lowest_open n =
      let (l, p, least) = mask_lowest test n in
      ((tells (lowest_task (mask_of test)) l).0 (subst T (sym p) tt), l, λ u hu o. of u (at_most (lowest_task (mask_of test)) u) ((tells u hu).1 o) least)
    where
      of : (u : ℕ) {b : Bool} → Reflects (lowest_task (mask_of test) ≤ u) b → T (test u) → ((u : ℕ) → u < lowest_task (mask_of test) → test u ≡ false) → lowest_task (mask_of test) ≤ u
      of u (right h) t least = h
      of u (wrong h) t least = absurd (subst T (least u (omega arith)) t)

-- The claim

module _ (fs : List Fault) (fit : AllFit fs) (some : 0 < length fs) (few : length fs ≤ entries) (rs : List Record) where
  start : TakenAll fs fresh_control (entered_all fs fresh_control)
  start = taken_all fs fit fresh_control fresh_control_lem.size (omega (arith, fresh_taken))
    where
      fresh_taken : entry_count fresh_control ≡ 0
      fresh_taken = fresh_control_cell entries_at (omega arith) (omega arith)

  abbrev s : State
  s = after_all by_clocks (start_with fs) rs

  pub represents : Represents (recording rs) s
  unfolding fresh_state
  represents = after_all_lem clocks_simulate [] (start_with fs) rs (record { base = base_control fresh_base (start.exact fresh_control_lem); clocks = clocks_simulate.begins.clocks })

  -- entries are as they were after any records
  all_kept : (rs : List Record) (z : State) (i : ℕ) → entries_at ≤ i → get_or (after_all by_clocks z rs).control i 0 ≡ get_or z.control i 0
  all_kept [] z i h = refl
  all_kept (r ∷ rs) z i h = all_kept rs (by_clocks.next z r) i h ∙ cell_kept z r i h

  module _ (o : Op) (t v : ℕ) (a : ActAllowed (standing (recording rs)) (kind o) t v) (isa : T (is_access o)) (e : refusal (recording rs) (record { kind = kind o; task = t; on = v }) ≡ 0) where
    abbrev r : Record
    r = record { kind = kind o; task = t; on = v }

    abbrev after : State
    after = by_clocks.next s r

    ht : t < tasks
    ht = a.fits.task_fits

    hv : v < variables
    hv = access_on o isa (on_series o a.fits)

    represents_after : Represents (recording rs ++ (act o t v ∷ [])) after
    represents_after =
        subst (λ (x : Event). Represents (recording rs ++ (x ∷ [])) after) (event_act o t v)
        (subst (λ (n : ℕ). Represents (append_unless (recording rs) r n) after) e (clocks_simulate.steps (recording rs) s r represents).1)

    -- the fullest clocks and the history after it
    same_clocks : after.fullclocks ≡ next_clocks full (kind o) t v (next_number s.control) s.fullclocks
    unfolding plain_step_of
    same_clocks =
        ap (λ (y : Stepped). y.state.fullclocks) (same_step r represents)
        ∙ ap (λ (n : ℕ). (step_unless_as n (kind o) s r).state.fullclocks) (same_refusal represents.base.control_exact r ∙ e)

    abbrev Paired : ℕ → Bool
    Paired = paired fs v t

    same_paired : (u : ℕ) → u < tasks → bit (paired_with after.control v t) u ≡ Paired u
    same_paired u hu =
        ap (λ (x : ℕ). bit x u) (cell_kept s r (paired_at v t) (omega arith) ∙ all_kept rs (start_with fs) (paired_at v t) (omega arith))
        ∙ (start.pairing v t u hv ht hu ∙ ap (λ (b : Bool). paired_from b fs v t u) none)
      where
        none : bit (paired_with fresh_control v t) u ≡ false
        none = ap (λ (x : ℕ). bit x u) (fresh_control_cell (paired_at v t) (omega arith) (omega (arith, hv, ht))) ∙ none_of_zero u

    -- apart in every completion and not paired
    abbrev Open : ℕ → Type 0
    Open u = ((i : ℕ) × Latest (recording rs ++ (act o t v ∷ [])) u i (length (recording rs)) × ApartInAll (recording rs ++ (act o t v ∷ [])) (length (recording rs)) i × (latest_number after.last (kind o) v u ≡ suc i))
        × (Paired u ≡ false)

    -- the acting task itself is never apart
    not_own : ¬ T (clock_apart after.fullclocks after.last (kind o) t v t)
    not_own x =
        let (i, c, n) = sound o (clock_tells o represents_after.base.history ht hv ht represents_after.clocks.in_full) represents_after.base.history isa hv ht x in
        of c.apart.against.by c.apart.against.conflict
      where
        of : {e : Event} → ActsIn t e → Conflict e (act o t v) → ⊥
        of acts (conflict n c) = n refl

    -- nor has it a pair
    not_latest : {i : ℕ} → ¬ Latest (recording rs ++ (act o t v ∷ [])) t i (length (recording rs))
    not_latest l = let f = latest_final (ends_middle (recording rs) []) l in of f.against.by f.against.conflict
      where
        of : {e : Event} → ActsIn t e → Conflict e (act o t v) → ⊥
        of acts (conflict n c) = n refl

    apart_after : (u : ℕ) → u < tasks →
        T (clock_apart after.fullclocks after.last (kind o) t v u)
        ↔ ((i : ℕ) × Latest (recording rs ++ (act o t v ∷ [])) u i (length (recording rs)) × ApartInAll (recording rs ++ (act o t v ∷ [])) (length (recording rs)) i × (latest_number after.last (kind o) v u ≡ suc i))
    apart_after u hu = decided (equal u t)
      where
        decided : {b : Bool} → Reflects (u ≡ t) b →
            T (clock_apart after.fullclocks after.last (kind o) t v u)
            ↔ ((i : ℕ) × Latest (recording rs ++ (act o t v ∷ [])) u i (length (recording rs)) × ApartInAll (recording rs ++ (act o t v ∷ [])) (length (recording rs)) i × (latest_number after.last (kind o) v u ≡ suc i))
        decided (right q) = rw q (λ x. absurd (not_own x), λ d. absurd (not_latest d.1))
        decided (wrong n) =
            let h = represents.base.history in
            let h' = represents_after.base.history in
            let same = same_apart s.fullclocks o (next_number s.control) h h' isa ht hv u hu n in
            let number = same_number s.fullclocks o (next_number s.control) h h' isa ht hv u hu n in
            let told = apart_told o h represents.clocks.in_full isa ht hv hu in
            rw (same_clocks, same)
            (λ x. let (i, l, q, m) = told.0 x in (i, l, q, number ∙ m), λ d. told.1 (d.0, d.1, d.2, sym number ∙ d.3))

    test : ℕ → Bool
    test u = clock_apart after.fullclocks after.last (kind o) t v u && not (bit (paired_with after.control v t) u)

    tells : (u : ℕ) → u < tasks → T (test u) ↔ Open u
    unfolding test
    tells u hu =
        rw (same_paired u hu)
        (λ x. let (y, z) = split (clock_apart after.fullclocks after.last (kind o) t v u) (Paired u) x in ((apart_after u hu).0 y, z), λ d. joint (clock_apart after.fullclocks after.last (kind o) t v u) (Paired u) ((apart_after u hu).1 d.0) d.1)
      where
        split : (a b : Bool) → T (a && not b) → T a × (b ≡ false)
        split true true x = absurd x
        split true false x = (tt, refl)
        split false b x = absurd x

        joint : (a b : Bool) → T a → b ≡ false → T (a && not b)
        joint true b x e = subst (λ (c : Bool). T (not c)) (sym e) tt
        joint false b x e = x

    -- a task with a pair is one of the sixteen, and the history has its number
    pair_ranged : {u i : ℕ} → Latest (recording rs ++ (act o t v ∷ [])) u i (length (recording rs)) → u < tasks
    pair_ranged l = let f = latest_final (ends_middle (recording rs) []) l in of f.against.by f.occurs
      where
        of : {u i : ℕ} {e : Event} {after : List Event} → ActsIn u e → Occurs (recording rs) i e after → u < tasks
        of acts o = (represents.base.ranged.in_range_lem _ _ _ _ _ o).0

    pair_number : {u i : ℕ} → Latest (recording rs ++ (act o t v ∷ [])) u i (length (recording rs)) → latest_number after.last (kind o) v u ≡ suc i
    pair_number {u} {i} l = of (equal u t)
      where
        of : {b : Bool} → Reflects (u ≡ t) b → latest_number after.last (kind o) v u ≡ suc i
        of (right q) = absurd (not_latest (subst (λ (x : ℕ). Latest (recording rs ++ (act o t v ∷ [])) x i (length (recording rs))) q l))
        of (wrong n) =
            let h = represents.base.history in
            let hu = pair_ranged l in
            same_number s.fullclocks o (next_number s.control) h represents_after.base.history isa ht hv u hu n
            ∙ final_number h isa hv hu n (latest_final (ends_middle (recording rs) []) l)

    opens : {u i : ℕ} → Latest (recording rs ++ (act o t v ∷ [])) u i (length (recording rs)) → ApartInAll (recording rs ++ (act o t v ∷ [])) (length (recording rs)) i → Paired u ≡ false → Open u
    opens {i = i} l q e = ((i, l, q, pair_number l), e)

    reported : (w : ℕ) → Reported Paired (recording rs ++ (act o t v ∷ [])) (length (recording rs)) w (excuse after r w)
    unfolding tables_excuse open_tasks test
    reported w = rw (taken, access_tests o isa, lt-ltb t tasks ht, lt-ltb v variables hv) (decided (equal (mask_of test) 0))
      where
        taken : ltb 0 (entry_count after.control) ≡ true
        taken =
            let e : entry_count after.control ≡ entry_count fresh_control + length fs = cell_kept s r entries_at (omega arith) ∙ (all_kept rs (start_with fs) entries_at (omega arith) ∙ start.taken) in
            lt-ltb 0 (entry_count after.control) (omega arith)

        all_paired : mask_of test ≡ 0 → (u i : ℕ) → Latest (recording rs ++ (act o t v ∷ [])) u i (length (recording rs)) →
            ApartInAll (recording rs ++ (act o t v ∷ [])) (length (recording rs)) i → (b : Bool) → Paired u ≡ b → Paired u ≡ true
        all_paired z u i l q true e = e
        all_paired z u i l q false e = absurd (none_open Open test tells z u (pair_ranged l) (opens l q e))

        decided : {b : Bool} → Reflects (mask_of test ≡ 0) b →
            Reported Paired (recording rs ++ (act o t v ∷ [])) (length (recording rs)) w
            (cond b (excuse_of true w) (excuse_of false (latest_number after.last (kind o) v (lowest_task (mask_of test)))))
        decided (right z) =
            record {
              known = (λ _ u i l q. all_paired z u i l q (Paired u) refl, λ _. refl);
              with_known = λ _. refl;
              with_open = λ e. absurd (true≢false e);
            }
        decided (wrong n) =
            let (((i, l, q, m), unpaired), hu, least) = lowest_open Open test tells n in
            record {
              known = (λ e. absurd (true≢false (sym e)), λ f. absurd (true≢false (sym (f (lowest_task (mask_of test)) i l q) ∙ unpaired)));
              with_known = λ e. absurd (true≢false (sym e));
              with_open =
                  λ _. (
                    i,
                    m,
                    record {
                      task = lowest_task (mask_of test);
                      latest = l;
                      apart = q;
                      unpaired = unpaired;
                      lowest = λ u j l' q' p'. least u (pair_ranged l') (opens l' q' p');
                    },
                  );
            }

pub faults_known : FaultsKnown
faults_known fs fit some few rs r e a n w m = of (shape_of (recording rs) r e) a e
  where
    of : {r : Record} → Shape (recording rs) r → accesses r.kind ≡ true → refusal (recording rs) r ≡ 0 →
        Reported (paired fs r.on r.task) (recording rs ++ (event_of r ∷ [])) (length (recording rs)) w (excuse (by_clocks.next (after_all by_clocks (start_with fs) rs) r) r w)
    of (an_act o t v x) a e = rw (event_act o t v) (reported fs fit some few rs o t v x (access_op o a) e w)
    of (a_mark t v x) a e = absurd (true≢false (sym a))
