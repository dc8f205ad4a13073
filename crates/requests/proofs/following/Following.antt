-- What following a list comes to: up to the first refused record what is kept is right of the recording that the list makes, and the answer is
-- for the last record. Assumes nothing.
use mathlib.Core.Path.{◌≡◌, refl, sym, ap, subst, ◌∙◌}
use mathlib.Core.Bool.{cond}
use mathlib.Core.List.{List, [], ◌∷◌, ◌++◌}
use Prim.Native.Nat.{ℕ, zero, suc}
use native.Mathlib.Omega.{arith}
use borrow.Author.Tests.{ne_eqb}
use lib.ListN.{length, get_or, take, length-append}
use Rattle.theory.specs.declared.record.Record.{Record}
use Rattle.theory.specs.order.Recording.{Event, event_of, accesses}
use Rattle.std.specs.Prelude.{Result, Err}
use Rattle.theory.specs.declared.refusal.Refusal.{Refusal}
use Rattle.theory.specs.acceptance.Table.{OfRow, refusal, standing, append_unless, extended, recording}
use Rattle.theory.specs.acceptance.Refusals.{numbered_row, refusal_in}
use Rattle.theory.specs.acceptance.Control.{control_refusal, control_after}
use Rattle.theory.specs.feeding.Step.{fresh_control}
use Rattle.theory.specs.feeding.Feeding.{refusals_after}
use Rattle.requests.specs.following.Following.{Run, run_of, followed, Follower, answered_at, ended_by, answer_by, first_refused, fed_refusal, AnswersWithout}
use Rattle.theory.proofs.acceptance.ControlTable.{ExactControl}
use Rattle.theory.proofs.acceptance.Standings.{same_refusal}
use Rattle.theory.proofs.acceptance.Rows.{refusal_of_row}
use Rattle.theory.proofs.acceptance.Numbered.{row_numbered}

-- the refusal of the first refused record, record by record
pub first_after : (n : ℕ) (ns : List ℕ) → ¬ (n ≡ 0) → first_refused (n ∷ ns) ≡ n
first_after n ns h = rw (ne_eqb n 0 h)

-- Over a list

-- what is kept is right of each recording, as `Holds` says it
pub record Keeps {S : Type 0} (next : List ℕ → Record → S → S) (Holds : List Event → List ℕ → S → Type 0) : Type 0 where
  pub exact : {es : List Event} {control : List ℕ} {s : S} → Holds es control s → ExactControl es control
  pub step : {es : List Event} {control : List ℕ} {s : S} → Holds es control s → (r : Record) → refusal es r ≡ 0 →
      Holds (es ++ (event_of r ∷ [])) (control_after r.kind r.task r.on control) (next control r s)

-- over a list: the refusal is that of feeding it, and without one what is kept is right
pub record Over {S : Type 0} (Holds : List Event → List ℕ → S → Type 0) (es : List Event) (rs : List Record) (x : Run S) : Type 0 where
  pub refused : x.refused ≡ first_refused (refusals_after es rs)
  pub holds : x.refused ≡ 0 → Holds (extended es rs) x.control x.kept

module _ {S : Type 0} {next : List ℕ → Record → S → S} {Holds : List Event → List ℕ → S → Type 0} (k : Keeps next Holds) where
  -- what is done with a record that gets the refusal n
  abbrev Then : ℕ → List ℕ → S → Record → List Record → Run S
  Then n control s r rs = elim n [ zero ↦ followed next (control_after r.kind r.task r.on control) (next control r s) rs | suc m ↦ run_of (suc m) control s ]

  over_next : (n : ℕ) (es : List Event) (control : List ℕ) (s : S) (r : Record) (rs : List Record) → refusal es r ≡ n → Holds es control s →
      (Holds (es ++ (event_of r ∷ [])) (control_after r.kind r.task r.on control) (next control r s) →
      Over Holds (es ++ (event_of r ∷ [])) rs (followed next (control_after r.kind r.task r.on control) (next control r s) rs)) →
      Over Holds es (r ∷ rs) (Then n control s r rs)
  over_next zero es control s r rs e h rest = let x = rest (k.step h r e) in record { refused = rw e x.refused; holds = λ z. rw e (x.holds z) }
  over_next (suc m) es control s r rs e h rest =
      record { refused = rw e (sym (first_after (suc m) (refusals_after (append_unless es r (suc m)) rs) (λ z. omega arith))); holds = λ z. absurd (omega arith) }

  pub follows_list : (rs : List Record) (es : List Event) (control : List ℕ) (s : S) → Holds es control s → Over Holds es rs (followed next control s rs)
  follows_list [] es control s h = record { refused = refl; holds = λ _. h }
  follows_list (r ∷ rs) es control s h =
      subst (λ (n : ℕ). Over Holds es (r ∷ rs) (Then n control s r rs)) (sym (same_refusal (k.exact h) r))
      (over_next (refusal es r) es control s r rs refl h (λ g. follows_list rs _ _ _ g))

-- The last record

-- the one, or where it is 0 the other
abbrev or_else : ℕ → ℕ → ℕ
or_else zero k = k
or_else (suc n) k = suc n

-- the refusal of the first refused record of a list with q behind it
with_last : (rs : List Record) (es : List Event) (q : Record) →
    first_refused (refusals_after es (rs ++ (q ∷ []))) ≡ or_else (first_refused (refusals_after es rs)) (refusal (extended es rs) q)
with_last [] es q = alone (refusal es q)
  where
    alone : (n : ℕ) → first_refused (n ∷ []) ≡ n
    alone zero = refl
    alone (suc n) = first_after (suc n) [] (λ e. omega arith)
with_last (r ∷ rs) es q = of (refusal es r) (λ es. with_last rs es q)
  where
    of : (n : ℕ) →
        ((es : List Event) → first_refused (refusals_after es (rs ++ (q ∷ []))) ≡ or_else (first_refused (refusals_after es rs)) (refusal (extended es rs) q)) →
        first_refused (n ∷ refusals_after (append_unless es r n) (rs ++ (q ∷ [])))
        ≡ or_else (first_refused (n ∷ refusals_after (append_unless es r n) rs)) (refusal (extended (append_unless es r n) rs) q)
    of zero rest = rest (append_unless es r zero)
    of (suc n) rest =
        rw (first_after (suc n) (refusals_after (append_unless es r (suc n)) (rs ++ (q ∷ []))) (λ e. omega arith), first_after (suc n) (refusals_after (append_unless es r (suc n)) rs) (λ e. omega arith))

-- a list is empty, or has a last record
pub data EmptyOrLast : List Record → Type 0 where
  empty : EmptyOrLast []
  snoc : (rs : List Record) (q : Record) → EmptyOrLast (rs ++ (q ∷ []))

pub snoc_of : (rs : List Record) → EmptyOrLast rs
snoc_of [] = empty
snoc_of (r ∷ rs) = of (snoc_of rs)
  where
    of : {rs : List Record} → EmptyOrLast rs → EmptyOrLast (r ∷ rs)
    of empty = snoc [] r
    of (snoc rs q) = snoc (r ∷ rs) q

module _ {S A : Type 0} (f : Follower S A) where
  -- what is answered for a list is asked of its last record
  pub answer_last : (rs : List Record) (q : Record) → answer_by f (rs ++ (q ∷ [])) ≡ ended_by f rs q
  answer_last [] q = refl
  answer_last (r ∷ rs) q =
      let e : length (rs ++ (q ∷ [])) ≡ suc (length rs) = omega (arith, length-append rs (q ∷ [])) in
      rw (e, firsts rs, last rs)
    where
      firsts : (rs : List Record) → take (length rs) (rs ++ (q ∷ [])) ≡ rs
      firsts [] = refl
      firsts (x ∷ rs) = ap (λ (l : List Record). x ∷ l) (firsts rs)

      last : (rs : List Record) → get_or (rs ++ (q ∷ [])) (length rs) r ≡ q
      last [] = refl
      last (x ∷ rs) = last rs

  -- what was followed before the record q
  abbrev pub before : List Record → Record → Run S
  before rs q = followed (f.next q) fresh_control f.fresh rs

-- an answer for a list by what is kept, which is right, for each record that may end it, of the recording before it
pub record RightBefore {S A : Type 0} (f : Follower S A) (Holds : Record → List Event → List ℕ → S → Type 0) : Type 0 where
  pub keeps : (q : Record) → Keeps (f.next q) (Holds q)
  pub begins : (q : Record) → Holds q [] fresh_control f.fresh

-- what holds where all records are accepted, the ending one included
pub record OfAccepted {S A : Type 0} (f : Follower S A) (Holds : Record → List Event → List ℕ → S → Type 0) (rs : List Record) (q : Record) : Type 0 where
  pub through : (before f rs q).refused ≡ 0
  pub last : refusal (recording rs) q ≡ 0
  pub holds : Holds q (recording rs) (before f rs q).control (before f rs q).kept
  pub answer : answer_by f (rs ++ (q ∷ [])) ≡ cond (accesses q.kind) (f.told q (before f rs q).kept) (f.without 0)

module _ {S A : Type 0} {f : Follower S A} {Holds : Record → List Event → List ℕ → S → Type 0} (x : RightBefore f Holds) where
  module _ (rs : List Record) (q : Record) where
    over : Over (Holds q) [] rs (before f rs q)
    over = follows_list (x.keeps q) rs [] fresh_control f.fresh (x.begins q)

    -- the refusal of the whole list
    refusal_last : fed_refusal (rs ++ (q ∷ [])) ≡ or_else (before f rs q).refused (control_refusal (before f rs q).control q)
    refusal_last = with_last rs [] q ∙ (rw (← over.refused) (of (before f rs q).refused over.holds))
      where
        of : (n : ℕ) → (n ≡ 0 → Holds q (extended [] rs) (before f rs q).control (before f rs q).kept) →
            or_else n (refusal (extended [] rs) q) ≡ or_else n (control_refusal (before f rs q).control q)
        of zero h = sym (same_refusal ((x.keeps q).exact (h refl)) q)
        of (suc n) h = refl

    refused_end : (n : ℕ) → fed_refusal (rs ++ (q ∷ [])) ≡ suc n → ended_by f rs q ≡ f.without (suc n)
    unfolding ended_by
    refused_end n e = of (before f rs q).refused (control_refusal (before f rs q).control q) (sym refusal_last ∙ e)
      where
        of : (m k : ℕ) → or_else m k ≡ suc n → elim m [ zero ↦ answered_at f q (before f rs q) k | suc n ↦ f.without (suc n) ] ≡ f.without (suc n)
        of zero k e = rw e
        of (suc m) k e = rw e

    accepted_end : fed_refusal (rs ++ (q ∷ [])) ≡ 0 →
        ((before f rs q).refused ≡ 0) × (control_refusal (before f rs q).control q ≡ 0)
        × (ended_by f rs q ≡ cond (accesses q.kind) (f.told q (before f rs q).kept) (f.without 0))
    unfolding ended_by
    accepted_end e = of (before f rs q).refused (control_refusal (before f rs q).control q) (sym refusal_last ∙ e)
      where
        of : (m k : ℕ) → or_else m k ≡ 0 →
            (m ≡ 0) × (k ≡ 0)
            × (elim m [ zero ↦ answered_at f q (before f rs q) k | suc n ↦ f.without (suc n) ] ≡ cond (accesses q.kind) (f.told q (before f rs q).kept) (f.without 0))
        of zero k e = (refl, e, rw e)
        of (suc m) k e = absurd (omega arith)

    pub accepted : fed_refusal (rs ++ (q ∷ [])) ≡ 0 → OfAccepted f Holds rs q
    accepted e =
        let (z, c, t) = accepted_end e in
        let h = over.holds z in
        record { through = z; last = sym (same_refusal ((x.keeps q).exact h) q) ∙ c; holds = h; answer = answer_last f rs q ∙ t }

  pub answers_without : AnswersWithout f.without (answer_by f)
  answers_without =
      record {
        refused = λ rs n e. refused (snoc_of rs) n e;
        empty = refl;
        other_end = λ rs q e a. (accepted rs q e).answer ∙ rw a;
      }
    where
      refused : {rs : List Record} → EmptyOrLast rs → (n : ℕ) → fed_refusal rs ≡ suc n → answer_by f rs ≡ f.without (suc n)
      refused empty n e = absurd (omega arith)
      refused (snoc rs q) n e = answer_last f rs q ∙ refused_end rs q n e

-- The number of a refused list's answer

-- it is that of a row
fed_of_row : (rs : List Record) (es : List Event) (n : ℕ) → first_refused (refusals_after es rs) ≡ suc n → OfRow (suc n)
fed_of_row [] es n e = absurd (omega arith)
fed_of_row (r ∷ rs) es n e = of (refusal es r) refl e (fed_of_row rs (append_unless es r zero) n)
  where
    of : (m : ℕ) → refusal es r ≡ m → first_refused (m ∷ refusals_after (append_unless es r m) rs) ≡ suc n →
        (first_refused (refusals_after (append_unless es r zero) rs) ≡ suc n → OfRow (suc n)) → OfRow (suc n)
    of zero q e later = later e
    of (suc m) q e later =
        let first = sym (first_after (suc m) (refusals_after (append_unless es r (suc m)) rs) (λ z. omega arith)) in
        subst OfRow (q ∙ (first ∙ e)) (refusal_of_row (standing es) r (omega arith))

-- so the row that the answer has says it
pub fed_number : {A : Type 0} (without : ℕ → Result A Refusal) → ((n : ℕ) → without (suc n) ≡ Err (numbered_row (suc n))) → {answer : List Record → Result A Refusal} →
    AnswersWithout without answer → (rs : List Record) (n : ℕ) → fed_refusal rs ≡ suc n → refusal_in (answer rs) ≡ suc n
fed_number without by_row x rs n e = rw (x.refused rs n e, by_row n) (row_numbered (suc n) (fed_of_row rs [] n e))
