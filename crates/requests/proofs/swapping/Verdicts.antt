-- Swaps of unrelated neighbours, one or many, change no verdict and no partner task of what feeding answers. Assumes nothing.
use mathlib.Core.Path.{◌≡◌, refl, sym, ◌∙◌, ap, subst}
use mathlib.Core.Bool.{Bool, true, false, cond, true≢false}
use mathlib.Core.List.{List, [], ◌∷◌, ◌++◌, map, append_assoc, nil≢cons, head-eq_of_cons-eq, tail-eq_of_cons-eq}
use mathlib.Core.Option.{Option, some}
use Prim.Native.Nat.{ℕ, zero, suc}
use native.Mathlib.Omega.{arith}
use lib.Dec.{T, eqb}
use lib.ListN.{length, get_elem?}
use Rattle.theory.specs.declared.record.Record.{Record}
use Rattle.theory.specs.declared.answer.Answer.{Answer}
use Rattle.theory.specs.order.Recording.{Op, Event, act, lost, loss_mark, op_of, event_of, ActsIn, acts}
use Rattle.theory.specs.fillings.Completion.{nothing, rounds}
use Rattle.theory.specs.acceptance.Table.{refusal, append_unless}
use Rattle.theory.specs.verdicts.Search.{Found, judgement, judge, is_access_event}
use Rattle.theory.specs.feeding.Meaning.{judges, takes, meaning}
use Rattle.theory.specs.feeding.Feeding.{accepted_answer, answer_unless, answers_from, AnswersByTable, fed, set_fed}
use Rattle.requests.specs.swapping.Unrelated.{UnrelatedRecords, MissedRecords}
use Rattle.requests.specs.swapping.Swaps.{Swaps, no_swap, swap_then, moved_by}
use Rattle.requests.specs.swapping.Compared.{Accepted, none_left, and_accepted, judged, task_of, said, lines_among, lines, SameVerdicts}
use Rattle.theory.proofs.basics.Reflects.{Reflects, right, wrong, by_test}
use Rattle.theory.proofs.order.Places.{Occurs, first, next}
use Rattle.theory.proofs.verdicts.Search.{Candidate, Outcome, nobody, somebody, partner_outcome}
use Rattle.theory.proofs.feeding.Demanded.{accepted_taken, clocks_demanded, sets_demanded}
use Rattle.requests.proofs.swapping.Independent.{Separates, unrelated_separates, missed_separates}
use Rattle.requests.proofs.swapping.Acceptance.{Taken, none_left as no-record-left, and_taken, taken_swapped}
use Rattle.requests.proofs.swapping.Candidates.{HasCandidate}
use Rattle.requests.proofs.swapping.Says.{Says, says_race, says_doubt, says_clear, SaidTo, to_access, to_other, SaidAll, said_none, said_next, line_moved}

-- Accepted lists

pub all_taken : (es : List Event) (rs : List Record) → Accepted (answers_from es rs) → Taken es rs
all_taken es [] a = no-record-left
all_taken es (r ∷ rs) a = decided (refusal es r) refl a (all_taken (es ++ (event_of r ∷ [])) rs)
  where
    decided : (n : ℕ) → refusal es r ≡ n → Accepted (answer_unless es r n ∷ answers_from (append_unless es r n) rs) →
        (Accepted (answers_from (es ++ (event_of r ∷ [])) rs) → Taken (es ++ (event_of r ∷ [])) rs) → Taken es (r ∷ rs)
    decided zero e (and_accepted q k) below = and_taken e (below k)
    decided (suc n) e (and_accepted q k) below = absurd (true≢false q)

pub all_accepted : {es : List Event} {rs : List Record} → Taken es rs → Accepted (answers_from es rs)
all_accepted no-record-left = none_left
all_accepted {es} (and_taken {r = r} e k) = rw e (and_accepted (accepted_taken es (event_of r)) (all_accepted k))

-- The task of a record number

-- an act that a record says is by that record's task
event_task : (r : Record) {o : Op} {t n : ℕ} → event_of r ≡ act o t n → r.task ≡ t
event_task r {o} {t} {n} e = of (eqb r.kind loss_mark) e
  where
    of : (b : Bool) → cond b (lost r.on) (act (op_of r.kind) r.task r.on) ≡ act o t n → r.task ≡ t
    of true e = let z : ◌≡◌ {A = ℕ} 0 1 = cc in absurd (omega arith)
    of false e = cc

-- the records of a list begin with the recording es
pub task_at : {es after : List Event} {i : ℕ} {o : Op} {t n : ℕ} (rs : List Record) (rest : List Event) → map event_of rs ≡ es ++ rest → Occurs es i (act o t n) after → task_of rs (suc i) ≡ some t
task_at [] rest e first = absurd (nil≢cons e)
task_at [] rest e (next o) = absurd (nil≢cons e)
task_at (r ∷ rs) rest e first = ap some (event_task r (head-eq_of_cons-eq e))
task_at (r ∷ rs) rest e (next o) = task_at rs rest (tail-eq_of_cons-eq e) o

-- What an accepted record is told

abbrev pub unpaired : Event → ℕ → Bool
unpaired e u = false

module _ (all : List Record) (es : List Event) (rest : List Event) (begin : map event_of all ≡ es ++ rest) where
  pub candidate_task : {g : ℕ → List Event} {e : Event} {t i n : ℕ} → Candidate g e es t i → n ≡ suc i → task_of all n ≡ some t
  candidate_task c q = rw q (of c.apart.against.by c.occurs)
    where
      of : {t i : ℕ} {e : Event} {after : List Event} → ActsIn t e → Occurs es i e after → task_of all (suc i) ≡ some t
      of acts o = task_at all rest begin o

  said_judged : {e : Event} {x y : Option Found} → Outcome rounds e 1 es x → Outcome nothing e 1 es y →
      Says (unpaired e) (HasCandidate rounds e es) (HasCandidate nothing e es) (judged (judgement x y).verdict (task_of all (judgement x y).partner))
  said_judged (somebody {x = x} i c q low) y =
      let number : x.number ≡ suc i = omega arith in
      rw (candidate_task c number) (says_race (record { holds = ((i, c), refl); lowest = λ u h. low u _ h.0.1 }))
  said_judged (nobody n) (somebody {x = y} i c q low) =
      let number : y.number ≡ suc i = omega arith in
      rw (candidate_task c number) (says_doubt (λ u h. n u _ h.1) (record { holds = (i, c); lowest = λ u h. low u _ h.1 }))
  said_judged (nobody n) (nobody m) = says_clear (λ u h. n u _ h.1) (λ u h. m u _ h.1)

  pub said_answer : (e : Event) → SaidTo unpaired es e (said all (accepted_answer es e))
  unfolding judge
  said_answer e = decided (by_test (is_access_event e))
    where
      decided : {b : Bool} → Reflects (T (is_access_event e)) b → SaidTo unpaired es e (said all (cond b (judges (suc (length es)) (judge es e).verdict (judge es e).partner) (takes (suc (length es)))))
      decided (right a) = to_access a (said_judged (partner_outcome 1 es) (partner_outcome 1 es))
      decided (wrong n) = to_other n

said_lines : (all : List Record) {es : List Event} {rs : List Record} → Taken es rs → map event_of all ≡ es ++ map event_of rs → SaidAll unpaired es rs (lines_among all rs (answers_from es rs))
said_lines all no-record-left b = said_none
said_lines all {es} (and_taken {r = r} {rs = rs} e k) b =
    rw e (said_next (said_answer all es (map event_of (r ∷ rs)) b (event_of r)) (said_lines all k (b ∙ sym (append_assoc es (event_of r ∷ []) (map event_of rs)))))

-- The claim, of whatever answers by the table and the search

module _ (answers : List Record → List Answer) (right : AnswersByTable answers) where
  pub taken_list : {rs : List Record} → Accepted (map meaning (answers rs)) → Taken [] rs
  taken_list {rs} a = all_taken [] rs (subst Accepted (right rs) a)

  pub said_list : {rs : List Record} → Taken [] rs → SaidAll unpaired [] rs (lines answers rs)
  said_list {rs} k = rw (right rs) (said_lines rs k refl)

  module _ {R : Record → Record → Type 0} (i : Separates R) where
    accepted : {rs rs' : List Record} → Swaps R rs rs' → Accepted (map meaning (answers rs)) → Accepted (map meaning (answers rs'))
    accepted no_swap a = a
    accepted (swap_then {ys = rs'} s ss) a = accepted ss (subst Accepted (sym (right rs')) (all_accepted (taken_swapped i s (taken_list a))))

    same_taken : {rs rs' : List Record} (s : Swaps R rs rs') → Taken [] rs → (k : ℕ) → get_elem? (lines answers rs') (moved_by s k) ≡ get_elem? (lines answers rs) k
    same_taken no_swap a k = refl
    same_taken (swap_then s ss) a k =
        let b = taken_swapped i s a in
        same_taken ss b _ ∙ line_moved i s (said_list a) (said_list b) k

    pub same_verdicts : SameVerdicts R answers
    same_verdicts = record { accepted = accepted; same = λ s a k. same_taken s (taken_list a) k }

-- of the step, which goes by the clocks
pub clocks_same_verdicts : SameVerdicts UnrelatedRecords fed
clocks_same_verdicts = same_verdicts fed clocks_demanded.by_table unrelated_separates

-- of the sets
pub sets_same_verdicts : SameVerdicts UnrelatedRecords set_fed
sets_same_verdicts = same_verdicts set_fed sets_demanded.by_table unrelated_separates

-- with a miss
pub clocks_missed_verdicts : SameVerdicts MissedRecords fed
clocks_missed_verdicts = same_verdicts fed clocks_demanded.by_table missed_separates

pub sets_missed_verdicts : SameVerdicts MissedRecords set_fed
sets_missed_verdicts = same_verdicts set_fed sets_demanded.by_table missed_separates
