-- F-12 and F-14: each accepted record keeps the profile of owned semaphores, and where the first record is `owned` no verdict is Doubt. Of whatever
-- accepts by the table, and gives the verdicts of demand 2. Assumes nothing.
use mathlib.Core.Path.{◌≡◌, refl, sym, ◌∙◌, ap, subst}
use mathlib.Core.Bool.{Bool, true, ◌||◌, true≢false}
use mathlib.Core.Logic.{◌↔◌, ◌≢◌}
use mathlib.Core.List.{List, [], ◌∷◌, ◌++◌, append_assoc, append-nil}
use Prim.Native.Nat.{ℕ, zero, suc}
use native.Mathlib.Omega.{arith}
use Rattle.theory.specs.declared.record.Record.{Record}
use Rattle.theory.specs.declared.answer.Answer.{Answer}
use Rattle.theory.specs.order.Recording.{Event, act, lost, event_of, Unmarked, no_events, an_act as and-act}
use Rattle.theory.specs.acceptance.Owning.{is_owned, under, OwnedFirst, owned_first, KeepsProfile}
use Rattle.theory.specs.acceptance.Table.{refusal, append_unless, extended}
use Rattle.theory.specs.verdicts.Verdict.{Verdict, Race, Clear, Doubt}
use Rattle.theory.specs.totals.Totals.{verdict_place}
use Rattle.theory.specs.feeding.Feeding.{recorded_by, FedDemand2, FedAcceptance, FedProfile, FedOwned}
use Rattle.theory.proofs.order.Ops.{event_act}
use Rattle.theory.proofs.acceptance.Keeping.{act_keeps, mark_keeps}
use Rattle.theory.proofs.acceptance.Owning.{under_snoc}
use Rattle.theory.proofs.feeding.Simulation.{Shape, an_act, a_mark, shape_of}

-- One accepted record

keeps : {es : List Event} {r : Record} → Shape es r → KeepsProfile es (event_of r)
keeps {es} (an_act o t n a) = subst (KeepsProfile es) (sym (event_act o t n)) (act_keeps es o t n a)
keeps {es} (a_mark t n m) = mark_keeps es n m

-- A recording

-- after the records es, each record of a list keeps the profile
data Keeping : List Event → List Event → Type 0 where
  none_left : {es : List Event} → Keeping es []
  and_keeps : {e : Event} {es fs : List Event} → KeepsProfile es e → Keeping (es ++ (e ∷ [])) fs → Keeping es (e ∷ fs)

keeping_next : {es fs : List Event} {e : Event} → Keeping es fs → KeepsProfile (es ++ fs) e → Keeping es (fs ++ (e ∷ []))
keeping_next {es} none_left k = and_keeps (rw (append-nil es) at k) none_left
keeping_next {es} {e = e} (and_keeps {e = d} {fs = fs} h l) k = and_keeps h (keeping_next {e = e} l (rw (append_assoc es (d ∷ []) fs) k))

keeping_at : {es : List Event} (before : List Event) (e : Event) (after : List Event) → Keeping es (before ++ (e ∷ after)) → KeepsProfile (es ++ before) e
keeping_at {es} [] e after (and_keeps h l) = rw (append-nil es) h
keeping_at {es} (d ∷ before) e after (and_keeps h l) = rw (append_assoc es (d ∷ []) before) at (keeping_at before e after l)

-- the records that are fed and accepted are such
keeping_fed : (es : List Event) (rs : List Record) → Keeping [] es → Keeping [] (extended es rs)
keeping_fed es [] k = k
keeping_fed es (r ∷ rs) k = keeping_fed (append_unless es r (refusal es r)) rs (decided (refusal es r) refl)
  where
    decided : (n : ℕ) → refusal es r ≡ n → Keeping [] (append_unless es r n)
    decided zero q = keeping_next k (keeps (shape_of es r q))
    decided (suc n) q = k

-- under the profile there are no marks
no_marks : {es fs : List Event} → under es ≡ true → Keeping es fs → Unmarked fs
no_marks q none_left = no_events
no_marks {es} q (and_keeps {e = act o t n} h l) = and-act (no_marks (under_snoc es (act o t n) ∙ ap (λ (b : Bool). b || is_owned (act o t n)) q) l)
no_marks q (and_keeps {e = lost mask} h l) = absurd (true≢false (sym q ∙ h.no_mark mask refl))

unmarked_owned : {es : List Event} → OwnedFirst es → Keeping [] es → Unmarked es
unmarked_owned owned_first (and_keeps h l) = and-act (no_marks refl l)

-- The demands

-- three verdicts, of which two are decided: the third is none
no_doubt : {v : Verdict} {A : Type 0} → ((v ≡ Race) ↔ A) × ((v ≡ Clear) ↔ (¬ A)) → v ≢ Doubt
no_doubt {v} (race, clear) q = apart Clear (λ e. omega arith) (clear.1 (λ a. apart Race (λ e. omega arith) (race.1 a)))
  where
    apart : (x : Verdict) → verdict_place x ≢ verdict_place Doubt → v ≢ x
    apart x d e = d (ap verdict_place (sym e ∙ q))

module _ (answers : List Record → List Answer) (accepts : FedAcceptance answers) where
  recorded_keeps : (rs : List Record) → Keeping [] (recorded_by answers rs)
  recorded_keeps rs = subst (Keeping []) (sym (accepts rs).0) (keeping_fed [] rs none_left)

  pub fed_profile : FedProfile answers
  fed_profile rs before e after q = keeping_at before e after (subst (Keeping []) q (recorded_keeps rs))

  pub fed_owned : FedDemand2 answers → FedOwned answers
  fed_owned demand2 rs k a = let (v, w, got, d) = demand2 rs k a in (v, w, got, λ f. no_doubt (d (unmarked_owned f (recorded_keeps rs))))
