-- The lazy reckoning answers what document 02 asks of it, for every list of records. The statement is in specs/lazy/Answer.antt. Assumes nothing.
use mathlib.Core.Path.{◌≡◌, refl, sym, ◌∙◌, ap, subst}
use mathlib.Core.Bool.{Bool, true, false, cond, not, ◌&&◌, true≢false}
use mathlib.Core.Logic.{◌↔◌, ◌≢◌}
use mathlib.Core.List.{List, [], ◌∷◌, ◌++◌}
use Prim.Native.Nat.{ℕ, suc, ◌-◌, ◌%◌, ◌^◌, ◌≤◌, ◌<◌, zero-le}
use native.Mathlib.Omega.{arith}
use borrow.Author.Tests.{lt-ltb, le-ltb}
use lib.Bits.{bit_and}
use lib.Dec.{T}
use lib.ListN.{length, get_or}
use Rattle.theory.specs.declared.record.Record.{Record}
use Rattle.theory.specs.declared.masks.Masks.{Masks}
use Rattle.theory.specs.order.Limits.{tasks, variables}
use Rattle.theory.specs.order.Recording.{Op, read, Event, act, ActsIn, acts, kind, kinds, loss_mark, event_of, is_access, kind_accesses, accesses}
use Rattle.theory.specs.order.Path.{HappensBefore, Conflict, conflict}
use Rattle.theory.specs.fillings.Completion.{bit}
use Rattle.theory.specs.acceptance.Table.{refusal, recording}
use Rattle.theory.specs.verdicts.Verdict.{Latest}
use Rattle.theory.specs.feeding.Step.{fresh_control, fresh_sets}
use Rattle.theory.specs.feeding.Paths.{set_reckoning, left_by, Retained, RetainedApart}
use Rattle.requests.specs.lazy.Walk.{Walks, Counted, WalkOf, no_pair, no_walk, walk, Between, pair}
use Rattle.requests.specs.lazy.Fold.{Lazy, word_at, by_end, column, walk_by, told, question, lazy_after, fresh_lazy, no_pairs, lazy_follower, lazily}
use Rattle.requests.specs.lazy.Answer.{Told, AnswersLazily}
use Rattle.theory.proofs.basics.Reflects.{Reflects, right, wrong, by_test, equal, at_most}
use Rattle.theory.proofs.order.Ops.{event_act, op_of_kind, op_of_lem, on_series, access_on, access_tests}
use Rattle.theory.proofs.order.Numbered.{kind_above}
use Rattle.theory.proofs.history.Numbers.{number_final, final_number}
use Rattle.theory.proofs.verdicts.Latest.{Final}
use Rattle.theory.proofs.feeding.Simulation.{Shape, an_act, a_mark, shape_of, RepresentsSets, after_all_lem, sets_simulate}
use Rattle.requests.proofs.following.Following.{Keeps, Over, follows_list, before, RightBefore, accepted, answers_without, fed_number}
use Rattle.theory.proofs.feeding.Paths.{set_paths}
use Rattle.theory.proofs.feeding.Asked.{access_op, sets_tell}
use Rattle.requests.proofs.lazy.Columns.{low_bit, and_bit, sum_walks, walks_least}
use Rattle.requests.proofs.lazy.Longer.{pair_final, final_one, counted_old, counted_fewer, circuit_end}
use Rattle.requests.proofs.lazy.Tracks.{StandsFor, Tracks, path_own}
use Rattle.requests.proofs.lazy.Passed.{access_plain}
use Rattle.requests.proofs.lazy.Steps.{asked_for, Lazily}
use Rattle.requests.proofs.lazy.Followed.{HoldsLazily, lazy_keeps, fresh_holds}

-- What is told of an access at the end

module _ (p : Op) (t v : ℕ) (isa : T (is_access p)) (ht : t < tasks) (es : List Event) (s : Lazy) (y : Lazily p t v isa ht es s) where
  abbrev f : Event
  f = act p t v

  abbrev all : List Event
  all = es ++ (f ∷ [])

  abbrev own : ℕ
  own = word_at s.nodes t

  tracked : (u : ℕ) → u < tasks → Tracks t v u f u es s
  tracked u hu = let e : column by_end u ≡ u = omega arith in subst (λ (c : ℕ). Tracks t v u f c es s) e (y.tracks by_end u (omega arith) hu)

  pairs_told : (u : ℕ) → u < tasks → T (bit s.walk.pairs u) ↔ ((i : ℕ) × Latest all u i (length es))
  pairs_told u hu = (
    λ h. let (i, a) = (tracked u hu).pair.0 h in (i, (pair_final es f).1 a),
    λ d. (tracked u hu).pair.1 (d.0, (pair_final es f).0 d.1),
  )

  path_told : (u : ℕ) (hu : u < tasks) {i : ℕ} → Latest all u i (length es) → HappensBefore all i (length es) ↔ T (bit own u)
  path_told u hu l = path_own v ht (tracked u hu) (access_plain p isa) ((pair_final es f).0 l)

  paths_told : (u : ℕ) → u < tasks → T (bit s.walk.pairs u && bit own u) ↔ ((i : ℕ) × Latest all u i (length es) × HappensBefore all i (length es))
  paths_told u hu = (
    λ h. let (a, b) = split (bit s.walk.pairs u) (bit own u) h in let (i, l) = (pairs_told u hu).0 a in (i, l, (path_told u hu l).1 b),
    λ d. joint (bit s.walk.pairs u) (bit own u) ((pairs_told u hu).1 (d.0, d.1)) ((path_told u hu d.1).0 d.2),
  )
    where
      split : (a b : Bool) → T (a && b) → T a × T b
      split true b h = (tt, h)
      split false b h = absurd h

      joint : (a b : Bool) → T a → T b → T (a && b)
      joint true b h l = l
      joint false b h l = h

  -- The walks

  walk_told : (u : ℕ) → u < tasks → WalkOf all t v (length es) u (walk_by own s u)
  walk_told u hu = decided (by_test (bit s.walk.pairs u)) (by_test (bit s.walk.known u))
    where
      w : Tracks t v u f u es s
      w = tracked u hu

      counted : {i m : ℕ} (b : Bool) → Counted (Walks es t i) (length es) m → StandsFor b (get_or s.counts u 0) s.walk.walked m →
          Counted (Walks all t i) (length es) (cond b (get_or s.counts u 0) (s.walk.walked - get_or s.counts u 0))
      counted {i} {m} true c e = subst (Counted (Walks all t i) (length es)) (sym e) (counted_old es f (omega arith) c)
      counted {i} {m} false c e =
          let q : s.walk.walked - get_or s.counts u 0 ≡ m = omega arith in
          subst (Counted (Walks all t i) (length es)) (sym q) (counted_old es f (omega arith) c)

      decided : {a b : Bool} → Reflects (T (bit s.walk.pairs u)) a → Reflects (T (bit s.walk.known u)) b →
          WalkOf all t v (length es) u (cond (a && not b) (cond (bit own u) (get_or s.counts u 0) (s.walk.walked - get_or s.counts u 0)) 0)
      decided (wrong n) k = no_pair (λ i l. n ((pairs_told u hu).1 (i, l)))
      decided (right h) (right k) = let (i, a, c) = w.known.0 k in no_walk ((pair_final es f).1 a) ((circuit_end es f).0 c)
      decided (right h) (wrong n) =
          let (i, a) = w.pair.0 h in
          let (m, c, e) = w.counts i a in
          walk ((pair_final es f).1 a) (λ d. n (w.known.1 (i, a, (circuit_end es f).1 d))) (counted (bit own u) c e)

  least : (u : ℕ) → u < tasks → (c : ℕ) → Between all (length es) u c → walk_by own s u ≤ c
  least u hu c b = of (walk_told u hu) b
    where
      of : {m c : ℕ} → WalkOf all t v (length es) u m → Between all (length es) u c → m ≤ c
      of (no_pair n) b = zero-le
      of (no_walk l d) b = zero-le
      of (walk l d k) (Between.no_pair n) = absurd (n _ l)
      of (walk l d k) (pair {i = j} l' k') =
          counted_fewer (λ m w. (w.hand_over, subst (λ (i : ℕ). i < m) (final_one ((pair_final es f).0 l) ((pair_final es f).0 l')) w.after)) k k'

-- The eager sets

module _ (rs : List Record) (p : Op) (t v : ℕ) (isa : T (is_access p)) (hv : v < variables) where
  -- what the sets keep for the access is the task's pair with it
  kept_final : {u i : ℕ} → u < tasks → u ≢ t → Retained (recording rs) p v u i ↔ Final u (act p t v) (recording rs) i
  kept_final {u} {i} hu n = (
    λ k. number_final history.base.history isa hv hu n (((set_paths rs).keeps p v u i isa hv hu).1 k),
    λ a. ((set_paths rs).keeps p v u i isa hv hu).0 (final_number history.base.history isa hv hu n a),
  )
    where
      history : RepresentsSets (recording rs) (left_by set_reckoning rs)
      history = after_all_lem sets_simulate [] fresh_sets rs sets_simulate.begins

  -- nobody's pair is one of its own
  other_task : {u i : ℕ} → Final u (act p t v) (recording rs) i → u ≢ t
  other_task a = of a.against.by a.against.conflict
    where
      of : {u : ℕ} {e : Event} → ActsIn u e → Conflict e (act p t v) → u ≢ t
      of acts (conflict n c) = n

  -- where a path leads from the pair the sets do not say that it is apart, and where none does they do
  eager_told : (eager u : ℕ) → u < tasks → {i : ℕ} → Final u (act p t v) (recording rs) i → {own : Bool} →
      T own ↔ HappensBefore (recording rs ++ (act p t v ∷ [])) i (length (recording rs)) →
      T (bit eager u) ↔ RetainedApart HappensBefore (recording rs) (act p t v) p v u → own ≡ not (bit eager u)
  eager_told eager u hu {i} a {own} path apart = decided (by_test own) (by_test (bit eager u))
    where
      decided : {b c : Bool} → Reflects (T own) b → Reflects (T (bit eager u)) c → b ≡ not c
      decided (right h) (right k) =
          let (j, l, n) = apart.0 k in
          absurd (n (subst (λ (m : ℕ). HappensBefore (recording rs ++ (act p t v ∷ [])) m (length (recording rs))) (final_one a ((kept_final hu (other_task a)).0 l)) (path.0 h)))
      decided (right h) (wrong k) = refl
      decided (wrong h) (right k) = refl
      decided (wrong h) (wrong k) = absurd (k (apart.1 (i, (kept_final hu (other_task a)).1 a, λ b. h (path.1 b))))

-- The whole answer for an access

told_of : (rs : List Record) (p : Op) (t v : ℕ) (isa : T (is_access p)) (ht : t < tasks) (hv : v < variables) (s : Lazy) (eager : Masks) →
    Lazily p t v isa ht (recording rs) s →
    ((u : ℕ) → u < tasks → T (bit eager.arrived u) ↔ RetainedApart HappensBefore (recording rs) (act p t v) p v u) →
    Told (recording rs ++ (act p t v ∷ [])) t v (length (recording rs)) eager (told (asked_for p t v isa ht) s)
told_of rs p t v isa ht hv s eager y apart =
    record {
      pairs = λ u hu. subst (λ (b : Bool). T b ↔ ((i : ℕ) × Latest all u i (length es))) (sym (low_bit s.walk.pairs u hu)) (pairs_told p t v isa ht es s y u hu);
      paths = λ u hu. subst (λ (b : Bool). T b ↔ ((i : ℕ) × Latest all u i (length es) × HappensBefore all i (length es))) (sym (paths_bit u hu)) (paths_told p t v isa ht es s y u hu);
      as_eager = λ u hu. paths_bit u hu ∙ (same u hu (by_test (bit s.walk.pairs u)) ∙ ap (λ (b : Bool). b && not (bit eager.arrived u)) (sym (low_bit s.walk.pairs u hu)));
      walked = sum_walks (WalkOf all t v (length es)) own s (walk_told p t v isa ht es s y);
      bounded = walks_least (Between all (length es)) own s (least p t v isa ht es s y);
    }
  where
    es : List Event
    es = recording rs

    all : List Event
    all = recording rs ++ (act p t v ∷ [])

    own : ℕ
    own = word_at s.nodes t

    paths_bit : (u : ℕ) → u < tasks → bit (bit_and s.walk.pairs own % 2 ^ tasks) u ≡ (bit s.walk.pairs u && bit own u)
    paths_bit u hu = low_bit (bit_and s.walk.pairs own) u hu ∙ and_bit s.walk.pairs own u

    same : (u : ℕ) → u < tasks → {b : Bool} → Reflects (T (bit s.walk.pairs u)) b → (b && bit own u) ≡ (b && not (bit eager.arrived u))
    same u hu (wrong n) = refl
    same u hu (right h) =
        let (i, l) = (pairs_told p t v isa ht es s y u hu).0 h in
        let path = path_told p t v isa ht es s y u hu l in
        eager_told rs p t v isa hv eager.arrived u hu ((pair_final es (act p t v)).0 l) (path.1, path.0) (apart u hu)

-- The question

-- a kind that accesses is an op's
access_of : (k : ℕ) → accesses k ≡ true → (o : Op) × (k ≡ kind o) × T (is_access o)
access_of k e = decided (at_most (length kinds) k) (equal k loss_mark)
  where
    decided : {a b : Bool} → Reflects (length kinds ≤ k) a → Reflects (k ≡ loss_mark) b → (o : Op) × (k ≡ kind o) × T (is_access o)
    decided (right h) m = absurd (true≢false (sym e ∙ ap kind_accesses (kind_above k h)))
    decided (wrong h) (right m) = absurd (true≢false (sym e ∙ ap accesses m))
    decided (wrong h) (wrong m) = let (o, q) = op_of_lem k (omega arith) m in (o, q, access_op o (sym (ap accesses q) ∙ e))

-- whatever record ends a list, it is asked for an access of a task
record Asks (q : Record) : Type 0 where
  p : Op
  t : ℕ
  v : ℕ
  isa : T (is_access p)
  ht : t < tasks
  for : question q ≡ asked_for p t v isa ht

asks_of : (q : Record) → Asks q
asks_of q = decided (accesses q.kind) refl (at_most (suc q.task) tasks) (at_most (suc q.on) variables)
  where
    decided : (a : Bool) → accesses q.kind ≡ a → {b c : Bool} → Reflects (q.task < tasks) b → Reflects (q.on < variables) c → Asks q
    decided true e (right h) (right l) =
        let (o, k, i) = access_of q.kind e in
        record {
          p = o;
          t = q.task;
          v = q.on;
          isa = i;
          ht = h;
          for = rw (e, lt-ltb q.task tasks h, lt-ltb q.on variables l) (λ j. record { kind = k j; task = q.task; on = q.on });
        }
    decided true e (right h) (wrong l) = record { p = read; t = 0; v = 0; isa = tt; ht = omega arith; for = rw (e, lt-ltb q.task tasks h, le-ltb q.on variables (omega arith)) }
    decided true e (wrong h) l = record { p = read; t = 0; v = 0; isa = tt; ht = omega arith; for = rw (e, le-ltb q.task tasks (omega arith)) }
    decided false e h l = record { p = read; t = 0; v = 0; isa = tt; ht = omega arith; for = rw e }

-- The claim

-- what is kept for a record that may end the list is right
HoldsFor : Record → List Event → List ℕ → Lazy → Type 0
HoldsFor q = let a = asks_of q in HoldsLazily a.p a.t a.v a.isa a.ht

right_before : RightBefore lazy_follower HoldsFor
unfolding HoldsFor
right_before =
    record {
      keeps = λ q. let a = asks_of q in subst (λ (x : Record). Keeps (lazy_after x) (HoldsFor q)) (sym a.for) (lazy_keeps a.p a.t a.v a.isa a.ht);
      begins = λ q. let a = asks_of q in fresh_holds a.p a.t a.v a.isa a.ht;
    }

-- an access in range is what is asked for
asked_itself : (o : Op) (t n : ℕ) → T (is_access o) → t < tasks → n < variables → question (record { kind = kind o; task = t; on = n }) ≡ record { kind = kind o; task = t; on = n }
asked_itself o t n a ht hn = rw (access_tests o a, lt-ltb t tasks ht, lt-ltb n variables hn)

access_told : (rs : List Record) {q : Record} → Shape (recording rs) q → accesses q.kind ≡ true → refusal (recording rs) q ≡ 0 → (before lazy_follower rs q).refused ≡ 0 →
    Told (recording rs ++ (event_of q ∷ [])) q.task q.on (length (recording rs)) (set_reckoning.masks (left_by set_reckoning rs) q) (told q (before lazy_follower rs q).kept)
access_told rs (a_mark t n m) e h z = absurd (true≢false (sym e))
access_told rs (an_act o t n a) e h z = rw (event_act o t n) (told_of rs o t n isa ht hn _ (set_reckoning.masks (left_by set_reckoning rs) r) (x.holds z).lazily apart)
  where
    r : Record
    r = record { kind = kind o; task = t; on = n }

    isa : T (is_access o)
    isa = access_op o e

    ht : t < tasks
    ht = a.fits.task_fits

    hn : n < variables
    hn = access_on o isa (on_series o a.fits)

    keeps : Keeps (lazy_after (question r)) (HoldsLazily o t n isa ht)
    keeps = subst (λ (y : Record). Keeps (lazy_after y) (HoldsLazily o t n isa ht)) (sym (asked_itself o t n isa ht hn)) (lazy_keeps o t n isa ht)

    x : Over (HoldsLazily o t n isa ht) [] rs (before lazy_follower rs r)
    x = follows_list keeps rs [] fresh_control fresh_lazy (fresh_holds o t n isa ht)

    apart : (u : ℕ) → u < tasks → T (bit (set_reckoning.masks (left_by set_reckoning rs) r).arrived u) ↔ RetainedApart HappensBefore (recording rs) (act o t n) o n u
    apart u hu =
        subst (λ (f : Event). T (bit (set_reckoning.masks (left_by set_reckoning rs) r).arrived u) ↔ RetainedApart HappensBefore (recording rs) f o n u) (event_act o t n)
        (subst (λ (p : Op). T (bit (set_reckoning.masks (left_by set_reckoning rs) r).arrived u) ↔ RetainedApart HappensBefore (recording rs) (event_of r) p n u) (op_of_kind o)
        ((sets_tell rs r h e).as_arrived u hu))

pub answers_lazily : AnswersLazily lazily
answers_lazily =
    record {
      without = answers_without right_before;
      number = fed_number no_pairs (λ n. refl) (answers_without right_before);
      access_end = λ rs q e a.
          let x = accepted right_before rs q e in
          (told q (before lazy_follower rs q).kept, x.answer ∙ rw a, access_told rs (shape_of (recording rs) q x.last) a x.last x.through);
    }
