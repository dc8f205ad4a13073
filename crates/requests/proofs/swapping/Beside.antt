-- With faults already accepted, too, swaps of unrelated neighbours change neither what is known nor a partner task. Assumes nothing.
use mathlib.Core.Path.{◌≡◌, refl, sym, ◌∙◌, ap, subst}
use mathlib.Core.Bool.{Bool, true, false, cond}
use mathlib.Core.List.{List, [], ◌∷◌, ◌++◌, map, append_assoc}
use mathlib.Core.Option.{Option}
use Prim.Native.Nat.{ℕ, suc, ◌≤◌, ◌<◌}
use native.Mathlib.Omega.{arith}
use lib.Dec.{T}
use lib.ListN.{length, get_elem?}
use Rattle.theory.specs.declared.record.Record.{Record}
use Rattle.theory.specs.declared.state.State.{State}
use Rattle.requests.specs.declared.excuse.Excuse.{Excuse}
use Rattle.theory.specs.order.Limits.{entries}
use Rattle.theory.specs.order.Recording.{Op, Event, act, lost, kind, loss_mark, event_of, is_access}
use Rattle.theory.specs.fillings.Completion.{nothing, rounds}
use Rattle.theory.specs.acceptance.Table.{refusal, append_unless, extended, recording}
use Rattle.theory.specs.verdicts.Verdict.{Race, Clear, Doubt, Latest, ApartInAll}
use Rattle.theory.specs.verdicts.Search.{Found, judgement, judge}
use Rattle.theory.specs.feeding.Meaning.{Meaning, refuses, judges, takes, meaning}
use Rattle.theory.specs.feeding.Feeding.{by_clocks, fed, replies, after_all, accepted_answer, answer_unless}
use Rattle.theory.specs.feeding.Step.{fresh_state}
use Rattle.theory.specs.totals.Totals.{entries_at}
use Rattle.requests.specs.entries.Table.{entry_count, excuse}
use Rattle.requests.specs.entries.Known.{Fault, AllFit, paired, start_with, Reported}
use Rattle.requests.specs.swapping.Unrelated.{UnrelatedRecords, MissedRecords}
use Rattle.requests.specs.swapping.Swaps.{Swaps, no_swap, swap_then, moved_by}
use Rattle.requests.specs.swapping.Compared.{judged, known, task_of, said, lines_among, lines, excused, told_beside, lines_from, lines_beside, SameBeside}
use Rattle.theory.proofs.basics.Reflects.{Reflects, right, wrong, by_test, is_true}
use Rattle.theory.proofs.order.Ops.{event_act, access_tests}
use Rattle.theory.proofs.fillings.Bounds.{apart_in_all}
use Rattle.theory.proofs.verdicts.Search.{Candidate, Outcome, nobody, somebody, partner_outcome, candidate_latest, candidate_far, far_candidate}
use Rattle.theory.proofs.verdicts.Examples.{ends_middle}
use Rattle.theory.proofs.feeding.Simulation.{Shape, an_act, a_mark, shape_of, Represents, clocks_simulate}
use Rattle.theory.proofs.feeding.Matching.{after_one_more}
use Rattle.theory.proofs.totals.Moved.{bool_false}
use Rattle.theory.proofs.totals.Kept.{fresh_control_cell}
use Rattle.requests.proofs.entries.Kept.{taken_kept, no_excuse}
use Rattle.theory.proofs.feeding.Demanded.{clocks_demanded}
use Rattle.requests.proofs.entries.Known.{represents, faults_known}
use Rattle.requests.proofs.swapping.Independent.{Separates, unrelated_separates, missed_separates}
use Rattle.requests.proofs.swapping.Acceptance.{Taken, none_left, and_taken, taken_swapped}
use Rattle.requests.proofs.swapping.Candidates.{HasCandidate}
use Rattle.requests.proofs.swapping.Says.{Says, says_known, says_race, says_doubt, says_clear, SaidTo, to_access, to_other, SaidAll, said_none, said_next, line_moved}
use Rattle.requests.proofs.swapping.Verdicts.{candidate_task, taken_list, same_verdicts}

-- the tasks that are paired with that of an access
abbrev paired_of : List Fault → Event → ℕ → Bool
paired_of fs (act o t v) u = paired fs v t u
paired_of fs (lost mask) u = false

-- A Race beside the entries

module _ (paired : ℕ → Bool) (all : List Record) (es rest : List Event) (begin : map event_of all ≡ es ++ rest) (o : Op) (t v : ℕ) where
  abbrev e : Event
  e = act o t v

  -- a task that is apart in the fullest filling, as F-7 has it
  candidate_apart : {u i : ℕ} → Candidate rounds e es u i → Latest (es ++ (e ∷ [])) u i (length es) × ApartInAll (es ++ (e ∷ [])) (length es) i
  candidate_apart c = (
    candidate_latest rounds (ApartInAll (es ++ (e ∷ [])) (length es)) (ends_middle es []) (λ i o t n mid s. apart_in_all (ends_middle es []) s) c,
    candidate_far rounds (ApartInAll (es ++ (e ∷ [])) (length es)) (ends_middle es []) (λ i o t n mid s. apart_in_all (ends_middle es []) s) c,
  )

  apart_candidate : {u i : ℕ} → Latest (es ++ (e ∷ [])) u i (length es) → ApartInAll (es ++ (e ∷ [])) (length es) i → Candidate rounds e es u i
  apart_candidate = far_candidate rounds (ApartInAll (es ++ (e ∷ [])) (length es)) (ends_middle es []) (λ i o t n mid s. apart_in_all (ends_middle es []) s)

  said_excused : {Arrived : ℕ → Type 0} {x : Excuse} {u i w : ℕ} → Candidate rounds e es u i → w ≡ suc i → ((u' j : ℕ) → Candidate rounds e es u' j → u ≤ u') →
      Reported paired (es ++ (e ∷ [])) (length es) w x → Says paired (HasCandidate rounds e es) Arrived (excused all x)
  said_excused {Arrived} {x} {u} {i} {w} c q low r = of x.known refl
    where
      of : (b : Bool) → x.known ≡ b → Says paired (HasCandidate rounds e es) Arrived (cond b (known (task_of all x.partner.0)) (judged Race (task_of all x.partner.0)))
      of true k =
          rw (candidate_task all es rest begin c (r.with_known k ∙ q))
          (says_known (record { holds = (i, c); lowest = λ u' h. low u' _ h.1 }) (λ u' h. let (l, a) = candidate_apart h.1 in r.known.0 k u' _ l a))
      of false k =
          let (j, n, p) = r.with_open k in
          let d = apart_candidate p.latest p.apart in
          rw (candidate_task all es rest begin d n)
          (says_race
          (record {
            holds = ((j, d), p.unpaired);
            lowest = λ u' h. let (l, a) = candidate_apart h.0.1 in p.lowest u' _ l a h.1;
          }))

-- What a record is told beside the entries

recorded_one_more : (es : List Event) (rs : List Record) (r : Record) → extended es (rs ++ (r ∷ [])) ≡ append_unless (extended es rs) r (refusal (extended es rs) r)
recorded_one_more es [] r = refl
recorded_one_more es (q ∷ rs) r = recorded_one_more (append_unless es q (refusal es q)) rs r

module _ (fs : List Fault) (fit : AllFit fs) (some-fault : 0 < length fs) (few : length fs ≤ entries) (all : List Record) where
  -- where a list has come to: the records passed, the recording of them and the state
  record Passed (passed : List Record) (es : List Event) (s : State) : Type 0 where
    logged : recording passed ≡ es
    state : after_all by_clocks (start_with fs) passed ≡ s
    exact : Represents es s

  module _ (passed : List Record) (es : List Event) (s : State) (x : Passed passed es s) where
    passed_on : (r : Record) → refusal es r ≡ 0 → Passed (passed ++ (r ∷ [])) (es ++ (event_of r ∷ [])) (by_clocks.next s r)
    passed_on r z =
        record {
          logged = recorded_one_more [] passed r ∙ (ap (λ (l : List Event). append_unless l r (refusal l r)) x.logged ∙ ap (append_unless es r) z);
          state = after_one_more by_clocks (start_with fs) passed r ∙ ap (λ (y : State). by_clocks.next y r) x.state;
          exact = subst (λ (n : ℕ). Represents (append_unless es r n) (by_clocks.next s r)) z (clocks_simulate.steps es s r x.exact).1;
        }

    answered : (r : Record) → refusal es r ≡ 0 → meaning (by_clocks.answer s r) ≡ accepted_answer es (event_of r)
    answered r z = (clocks_simulate.steps es s r x.exact).0 ∙ ap (answer_unless es r) z

    module _ (rest : List Event) (begin : map event_of all ≡ es ++ rest) (o : Op) (t v : ℕ) (isa : T (is_access o)) (z : refusal es (record { kind = kind o; task = t; on = v }) ≡ 0) where
      abbrev r : Record
      r = record { kind = kind o; task = t; on = v }

      reported : (n w : ℕ) → meaning (by_clocks.answer s r) ≡ judges n Race w → Reported (paired fs v t) (es ++ (act o t v ∷ [])) (length es) w (excuse (by_clocks.next s r) r w)
      reported n w m =
          rw (x.logged, x.state, event_act o t v) at
          (faults_known fs fit some-fault few passed r (rw x.logged z) (access_tests o isa) n w (rw x.state m))

      said_race : {x y : Option Found} (n : ℕ) → Outcome rounds (act o t v) 1 es x → Outcome nothing (act o t v) 1 es y →
          meaning (by_clocks.answer s r) ≡ judges n (judgement x y).verdict (judgement x y).partner →
          Says (paired fs v t) (HasCandidate rounds (act o t v) es) (HasCandidate nothing (act o t v) es)
          (told_beside all (by_clocks.next s r) r (judges n (judgement x y).verdict (judgement x y).partner))
      said_race n (somebody {x = x} i c q low) y m =
          let number : x.number ≡ suc i = omega arith in
          said_excused (paired fs v t) all es rest begin o t v c number low (reported n x.number m)
      said_race n (nobody k) (somebody {x = y} i c q low) m =
          let number : y.number ≡ suc i = omega arith in
          rw (candidate_task all es rest begin c number) (says_doubt (λ u h. k u _ h.1) (record { holds = (i, c); lowest = λ u h. low u _ h.1 }))
      said_race n (nobody k) (nobody l) m = says_clear (λ u h. k u _ h.1) (λ u h. l u _ h.1)

      -- the access is told so
      said_access : SaidTo (paired_of fs) es (act o t v) (told_beside all (by_clocks.next s r) r (meaning (by_clocks.answer s r)))
      unfolding judge
      said_access =
          let m : meaning (by_clocks.answer s r) ≡ judges (suc (length es)) (judge es (act o t v)).verdict (judge es (act o t v)).partner = answered r z ∙ rw (event_act o t v, is_true (by_test (is_access o)) isa) in
          rw m (to_access isa (said_race (suc (length es)) (partner_outcome 1 es) (partner_outcome 1 es) m))

    said_to : (rest : List Event) → map event_of all ≡ es ++ rest → {r : Record} → Shape es r → refusal es r ≡ 0 →
        SaidTo (paired_of fs) es (event_of r) (told_beside all (by_clocks.next s r) r (meaning (by_clocks.answer s r)))
    said_to rest begin (an_act o t n y) z = rw (event_act o t n) (decided (by_test (is_access o)))
      where
        r : Record
        r = record { kind = kind o; task = t; on = n }

        decided : {b : Bool} → Reflects (T (is_access o)) b → SaidTo (paired_of fs) es (act o t n) (told_beside all (by_clocks.next s r) r (meaning (by_clocks.answer s r)))
        decided (right a) = said_access rest begin o t n a z
        decided (wrong k) =
            let m : meaning (by_clocks.answer s r) ≡ takes (suc (length es)) = answered r z ∙ rw (event_act o t n, bool_false {b = is_access o} k) in
            rw m (to_other k)
    said_to rest begin (a_mark t n y) z = rw (answered (record { kind = loss_mark; task = t; on = n }) z) (to_other (λ a. a))

  -- Lists

  said_from : {passed left : List Record} {es : List Event} {s : State} → Passed passed es s → Taken es left → map event_of all ≡ es ++ map event_of left → SaidAll (paired_of fs) es left (lines_from all s left)
  said_from x none_left begin = said_none
  said_from {passed} {es = es} {s = s} x (and_taken {r = r} {rs = rs} z k) begin =
      said_next (said_to passed es s x (map event_of (r ∷ rs)) begin (shape_of es r z) z)
      (said_from {passed = passed ++ (r ∷ [])} (passed_on passed es s x r z) k (begin ∙ sym (append_assoc es (event_of r ∷ []) (map event_of rs))))

-- The claim

module _ (fs : List Fault) (fit : AllFit fs) (some-fault : 0 < length fs) (few : length fs ≤ entries) where
  said_beside_lem : (rs : List Record) → Taken [] rs → SaidAll (paired_of fs) [] rs (lines_beside fs rs)
  said_beside_lem rs k = said_from fs fit some-fault few rs {passed = []} (record { logged = refl; state = refl; exact = represents fs fit some-fault few [] }) k refl

  beside_taken : {R : Record → Record → Type 0} {rs rs' : List Record} → Separates R → (s : Swaps R rs rs') → Taken [] rs → (k : ℕ) → get_elem? (lines_beside fs rs') (moved_by s k) ≡ get_elem? (lines_beside fs rs) k
  beside_taken i no_swap a k = refl
  beside_taken i (swap_then {xs = rs} {ys = rs'} s ss) a k =
      let b = taken_swapped i s a in
      beside_taken i ss b _ ∙ line_moved i s (said_beside_lem rs a) (said_beside_lem rs' b) k

-- Without entries a Race is told as by document 01

told_without : (all : List Record) (s : State) (r : Record) (m : Meaning) → entry_count s.control ≡ 0 → told_beside all s r m ≡ said all m
told_without all s r (refuses n) e = refl
told_without all s r (takes n) e = refl
told_without all s r (judges n Race w) e = rw (no_excuse s r w e)
told_without all s r (judges n Clear w) e = refl
told_without all s r (judges n Doubt w) e = refl

lines_without : (all : List Record) (s : State) (rs : List Record) → entry_count s.control ≡ 0 → lines_from all s rs ≡ lines_among all rs (map meaning (replies by_clocks s rs))
lines_without all s [] e = refl
lines_without all s (r ∷ rs) e =
    let z : entry_count (by_clocks.next s r).control ≡ 0 = taken_kept s r ∙ e in
    rw (told_without all (by_clocks.next s r) r (meaning (by_clocks.answer s r)) z, lines_without all (by_clocks.next s r) rs z)

beside_none : (rs : List Record) → lines_beside [] rs ≡ lines fed rs
unfolding fresh_state
beside_none rs = lines_without rs fresh_state rs (fresh_control_cell entries_at (omega arith) (omega arith))

pub same_beside : {R : Record → Record → Type 0} → Separates R → SameBeside R
same_beside i [] fit few rs rs' s a k = rw (beside_none rs, beside_none rs') ((same_verdicts fed clocks_demanded.by_table i).same s a k)
same_beside i (f ∷ fs) fit few rs rs' s a k = beside_taken (f ∷ fs) fit (omega arith) few i s (taken_list fed clocks_demanded.by_table a) k

-- of unrelated neighbours
pub unrelated_beside : SameBeside UnrelatedRecords
unrelated_beside = same_beside unrelated_separates

-- with a miss
pub missed_beside : SameBeside MissedRecords
missed_beside = same_beside missed_separates
