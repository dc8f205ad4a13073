-- Demands 1, 2 and 3 for whatever list of records is fed: of the step, which goes by the clocks, and of the sets. The statements are in
-- specs/feeding/Feeding.antt. Assumes nothing.
use mathlib.Core.Path.{◌≡◌, refl, sym, ◌∙◌, ap, subst}
use mathlib.Core.Bool.{Bool, true, false, cond, true≢false}
use mathlib.Core.Logic.{◌↔◌}
use mathlib.Core.List.{List, [], ◌∷◌, ◌++◌, map, append_assoc, append-nil}
use Prim.Native.Nat.{ℕ, zero, suc, ◌≤◌}
use native.Mathlib.Omega.{arith}
use lib.ListN.{length}
use Rattle.theory.specs.declared.record.Record.{Record}
use Rattle.theory.specs.declared.answer.Answer.{Answer}
use Rattle.theory.specs.order.Recording.{Event, act, event_of, Unmarked, accesses, is_access}
use Rattle.theory.specs.acceptance.Table.{last_row, OfRow, standing_refusal, refusal, append_unless, extended, recording}
use Rattle.theory.specs.acceptance.Control.{control_standing}
use Rattle.theory.specs.verdicts.Verdict.{Verdict, Race, Clear, AccessAt, Unordered, With}
use Rattle.theory.specs.verdicts.Demands.{Firm}
use Rattle.theory.specs.verdicts.Search.{judge, is_access_event}
use Rattle.theory.specs.declared.masks.Masks.{Masks}
use Rattle.theory.specs.tables.Reckonings.{clock_masks, set_masks}
use Rattle.theory.specs.feeding.Step.{next_number, answered_by, step_of, set_step_of}
use Rattle.theory.specs.basics.Turns.{turns}
use Rattle.theory.specs.order.Path.{rule}
use Rattle.theory.specs.fillings.Completion.{rounds, round, part, on_each}
use Rattle.theory.specs.verdicts.Examples.{Example, table}
use Rattle.theory.specs.feeding.Meaning.{Meaning, refuses, takes, judges, meaning, is_refusal, refusal_number}
use Rattle.theory.specs.feeding.Feeding.{event_record, verdicts_of, taken_in, Got, got_now, got_later, got_refused, EachAccess, FedDemand2, FedDemand3, FedPartner, FedAcceptance, refusals_after, accepted_answer, answer_unless, answers_from, AnswersByTable, Checker, by_clocks, by_sets, runs, fed, set_fed, Demanded, checker_refusal, number_for, Judged, GetsVerdict, Demand1, Handled, refused, access_taken, other_taken}
use Rattle.theory.proofs.basics.Reflects.{by_test, is_true}
use Rattle.theory.proofs.order.Places.{Ends, ends, onward, at_ends}
use Rattle.theory.proofs.verdicts.Demands.{Ruling, judge_ruling, ruling_firm, ruling_with, firm_unmarked}
use Rattle.theory.proofs.feeding.Simulation.{Simulates, fed_to, clocks_simulate, sets_simulate}
use Rattle.theory.proofs.feeding.Cases.{judged_by}
use Rattle.theory.proofs.feeding.Profile.{fed_profile, fed_owned}
use Rattle.theory.proofs.acceptance.Rows.{refusal_bound, refusal_of_row}
use Rattle.theory.proofs.acceptance.Numbered.{refuses_by_row}

-- An accepted record's answer is no refusal

-- either way that an accepted record is answered
chosen : (P : Meaning → Type 0) (b : Bool) {x y : Meaning} → P x → P y → P (cond b x y)
chosen P true p q = p
chosen P false p q = q

pub accepted_taken : (es : List Event) (e : Event) → is_refusal (accepted_answer es e) ≡ false
accepted_taken es e = chosen (λ a. is_refusal a ≡ false) (is_access_event e) refl refl

accepted_number : (es : List Event) (e : Event) → refusal_number (accepted_answer es e) ≡ 0
accepted_number es e = chosen (λ a. refusal_number a ≡ 0) (is_access_event e) refl refl

-- Acceptance

number_to : (es : List Event) (r : Record) (n : ℕ) → refusal_number (answer_unless es r n) ≡ n
number_to es r zero = accepted_number es (event_of r)
number_to es r (suc n) = refl

numbers_from : (es : List Event) (rs : List Record) → map refusal_number (answers_from es rs) ≡ refusals_after es rs
numbers_from es [] = refl
numbers_from es (r ∷ rs) = rw (number_to es r (refusal es r), numbers_from (append_unless es r (refusal es r)) rs)

accepted_from : (es : List Event) (rs : List Record) → es ++ taken_in rs (answers_from es rs) ≡ extended es rs
accepted_from es [] = append-nil es
accepted_from es (r ∷ rs) = decided (refusal es r) (accepted_from es rs) (accepted_from (es ++ (event_of r ∷ [])) rs)
  where
    decided : (n : ℕ) → es ++ taken_in rs (answers_from es rs) ≡ extended es rs →
        (es ++ (event_of r ∷ [])) ++ taken_in rs (answers_from (es ++ (event_of r ∷ [])) rs) ≡ extended (es ++ (event_of r ∷ [])) rs →
        es ++ taken_in (r ∷ rs) (answer_unless es r n ∷ answers_from (append_unless es r n) rs) ≡ extended (append_unless es r n) rs
    decided zero e q = rw (accepted_taken es (event_of r)) (sym (append_assoc es (event_of r ∷ []) (taken_in rs (answers_from (es ++ (event_of r ∷ [])) rs))) ∙ q)
    decided (suc n) e q = e

-- The answer that each record of the recording got

got_from : (es : List Event) (rs : List Record) {k : ℕ} {before : List Event} {f : Event} → Ends (taken_in rs (answers_from es rs)) k before f →
    Got (answers_from es rs) k (accepted_answer (es ++ before) f)
got_from es [] d = elim d [ ]
got_from es (r ∷ rs) {k} {before} {f} d =
    decided (refusal es r) (λ k before f d. got_from es rs d) (λ k before f d. got_from (es ++ (event_of r ∷ [])) rs d) d
  where
    Gets : List Event → List Meaning → Type 0
    Gets es answers =
        (k : ℕ) (before : List Event) (f : Event) → Ends (taken_in rs answers) k before f → Got answers k (accepted_answer (es ++ before) f)

    decided : (n : ℕ) → Gets es (answers_from es rs) → Gets (es ++ (event_of r ∷ [])) (answers_from (es ++ (event_of r ∷ [])) rs) →
        Ends (taken_in (r ∷ rs) (answer_unless es r n ∷ answers_from (append_unless es r n) rs)) k before f →
        Got (answer_unless es r n ∷ answers_from (append_unless es r n) rs) k (accepted_answer (es ++ before) f)
    decided zero same more d = taken (rw (accepted_taken es (event_of r)) at d)
      where
        taken : {k : ℕ} {before : List Event} {f : Event} → Ends (event_of r ∷ taken_in rs (answers_from (es ++ (event_of r ∷ [])) rs)) k before f →
            Got (accepted_answer es (event_of r) ∷ answers_from (es ++ (event_of r ∷ [])) rs) k (accepted_answer (es ++ before) f)
        taken ends = rw (append-nil es) (got_now (accepted_taken es (event_of r)))
        taken (onward {f = f} {before = before} {k = k} d) =
            got_later (accepted_taken es (event_of r))
            (subst (λ (l : List Event). Got (answers_from (es ++ (event_of r ∷ [])) rs) k (accepted_answer l f)) (append_assoc es (event_of r ∷ []) before) (more k before f d))
    decided (suc n) same more d = got_refused refl (same k before f d)

ends_length : {es before : List Event} {k : ℕ} {f : Event} → Ends es k before f → length before ≡ k
ends_length ends = refl
ends_length (onward d) = ap suc (ends_length d)

module _ (answers : List Record → List Answer) (right : AnswersByTable answers) where
  -- whatever the verdict and partner of the search are, the fed ones are
  each_access : (P : List Event → ℕ → Verdict → ℕ → Type 0) → ((es : List Event) (k : ℕ) (v : Verdict) (w : ℕ) → Ruling es k v w → P es k v w) → EachAccess answers P
  each_access P holds rs k a = subst Each (sym (right rs)) each (subst (λ (l : List Meaning). AccessAt (taken_in rs l) k) (right rs) a)
    where
      Each : List Meaning → Type 0
      Each given = AccessAt (taken_in rs (answers_from [] rs)) k → (v : Verdict) × (w : ℕ) × Got given k (judges (suc k) v w) × P (taken_in rs given) k v w

      each : Each (answers_from [] rs)
      each x =
          let (before, d) = at_ends x.at in
          let j = judge before (act x.op x.task x.on) in
          (j.verdict, j.partner, got before d, holds _ k _ _ (judge_ruling d))
        where
          got : (before : List Event) → Ends (taken_in rs (answers_from [] rs)) k before (act x.op x.task x.on) →
              Got (answers_from [] rs) k (judges (suc k) (judge before (act x.op x.task x.on)).verdict (judge before (act x.op x.task x.on)).partner)
          got before d = rw (is_true (by_test (is_access x.op)) x.access, ends_length d) at (got_from [] rs d)

  pub fed_demand3 : FedDemand3 answers
  fed_demand3 = each_access (λ es k v w. Firm es k v) (λ es k v w r. ruling_firm r)

  pub fed_partner : FedPartner answers
  fed_partner = each_access With (λ es k v w r. ruling_with r)

  pub fed_demand2 : FedDemand2 answers
  fed_demand2 =
      each_access (λ es k v w. Unmarked es → ((v ≡ Race) ↔ Unordered es k) × ((v ≡ Clear) ↔ (¬ Unordered es k)))
      (λ es k v w r u. firm_unmarked u (ruling_firm r))

  pub fed_acceptance : FedAcceptance answers
  fed_acceptance rs = (
    subst (λ (l : List Meaning). taken_in rs l ≡ recording rs) (sym (right rs)) (accepted_from [] rs),
    subst (λ (l : List Meaning). map refusal_number l ≡ refusals_after [] rs) (sym (right rs)) (numbers_from [] rs),
  )

-- Demand 1, and that an access which no row refuses gets a verdict

accepted_verdict : (last : List ℕ) (k on number : ℕ) (m : Masks) → accesses k ≡ true → Judged (answered_by last k on number m) number
accepted_verdict last k on number m q = rw q (judged_by last k on number m.full m.arrived)

-- from what a checker does with a record that a row refuses, and with one that none does
module _ {S : Type 0} (c : Checker S) (s : S) (r : Record) (refuse : (n : ℕ) → checker_refusal c s r ≡ suc n → (meaning (c.answer s r) ≡ refuses (suc n)) × (c.next s r ≡ s))
    (judge : checker_refusal c s r ≡ 0 → accesses r.kind ≡ true → Judged (c.answer s r) (number_for c s))
    (take : checker_refusal c s r ≡ 0 → accesses r.kind ≡ false → meaning (c.answer s r) ≡ takes (number_for c s)) where
  handled : Handled c s r
  handled = decided (checker_refusal c s r) (refusal_bound _ r) refl
    where
      taken : (b : Bool) → accesses r.kind ≡ b → checker_refusal c s r ≡ 0 → Handled c s r
      taken true q e = access_taken e q (judge e q)
      taken false q e = other_taken e q (take e q)

      decided : (n : ℕ) → checker_refusal c s r ≤ last_row → checker_refusal c s r ≡ n → Handled c s r
      decided (suc n) h e = let (a, b) = refuse n e in refused (suc n) e (omega arith) (omega arith) (subst OfRow e (refusal_of_row _ r (omega arith))) a b
      decided zero h e = taken (accesses r.kind) refl e

-- the step, which goes by the clocks
pub clocks_demand1 : Demand1 by_clocks
unfolding step_of
clocks_demand1 s r =
    handled by_clocks s r (λ n e. (rw e (refuses_by_row (control_standing s.control) r n e), rw e))
    (λ e q. rw e (accepted_verdict s.last r.kind r.on (next_number s.control) (clock_masks s.clocks s.fullclocks s.last r.kind r.task r.on) q))
    (λ e q. rw (e, q))

pub sets_demand1 : Demand1 by_sets
unfolding set_step_of
sets_demand1 s r =
    handled by_sets s r (λ n e. (rw e (refuses_by_row (control_standing s.control) r n e), rw e))
    (λ e q. rw e (accepted_verdict s.last r.kind r.on (next_number s.control) (set_masks s.sets s.fullsets s.last r.kind r.task r.on) q))
    (λ e q. rw (e, q))

-- so each access that no row refuses gets a verdict
pub gets_verdict : {S : Type 0} {c : Checker S} → Demand1 c → GetsVerdict c
gets_verdict {c = c} d s r a z = by_cases (d s r)
  where
    by_cases : Handled c s r → Judged (c.answer s r) (number_for c s)
    by_cases (refused n e l h k m q) = absurd (omega arith)
    by_cases (access_taken e q j) = j
    by_cases (other_taken e q m) = absurd (true≢false (sym a ∙ q))

-- K1 to K12 come out of feeding as they come out of the definitions

same_rows : (answers : List Record → List Answer) → AnswersByTable answers → (xs : List Example) →
    map (λ (x : Example). verdicts_of (map meaning (answers (map event_record x.events)))) xs ≡ map (λ (x : Example). verdicts_of (answers_from [] (map event_record x.events))) xs
same_rows answers right [] = refl
same_rows answers right (x ∷ xs) = rw (right (map event_record x.events), same_rows answers right xs)

-- the table by computation, from the table of refusals and the search
table_fed : map (λ (x : Example). verdicts_of (answers_from [] (map event_record x.events))) table ≡ map (λ (x : Example). x.answered) table
unfolding turns standing_refusal judge rule rounds round part on_each
table_fed = refl

-- All of it, of whatever simulates

pub demanded : {S : Type 0} {c : Checker S} {R : List Event → S → Type 0} → Simulates c R → Demanded (runs c)
demanded {c = c} x =
    record {
      by_table = right;
      demand2 = fed_demand2 (runs c) right;
      demand3 = fed_demand3 (runs c) right;
      partner = fed_partner (runs c) right;
      acceptance = fed_acceptance (runs c) right;
      profile = fed_profile (runs c) (fed_acceptance (runs c) right);
      owned = fed_owned (runs c) (fed_acceptance (runs c) right) (fed_demand2 (runs c) right);
      examples = same_rows (runs c) right table ∙ table_fed;
    }
  where
    right : AnswersByTable (runs c)
    right rs = fed_to x [] c.fresh rs x.begins

-- of the step, which goes by the clocks
pub clocks_demanded : Demanded fed
clocks_demanded = demanded clocks_simulate

-- of the sets
pub sets_demanded : Demanded set_fed
sets_demanded = demanded sets_simulate
