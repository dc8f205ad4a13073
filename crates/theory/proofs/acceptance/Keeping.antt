-- A record that no row refuses keeps the profile of owned semaphores. Assumes nothing.
use mathlib.Core.Path.{◌≡◌, refl, sym, ap, subst}
use mathlib.Core.Bool.{true, false, true≢false}
use mathlib.Core.List.{List}
use Prim.Native.Nat.{ℕ}
use native.Mathlib.Omega.{arith}
use borrow.Author.Tests.{eqb-true, eqb-false}
use Rattle.theory.specs.order.Recording.{Op, Event, act, lost, kind, loss_mark}
use Rattle.theory.specs.acceptance.Owning.{Who, nobody, by, is_somebody, is_by, holder, KeepsProfile}
use Rattle.theory.specs.acceptance.Table.{standing}
use Rattle.theory.specs.feeding.Feeding.{event_record}
use Rattle.theory.proofs.order.Ops.{no_mark}
use Rattle.theory.proofs.acceptance.Rows.{ActAllowed, MarkAllowed}

is_nobody : (h : Who) → is_somebody h ≡ false → h ≡ nobody
is_nobody nobody q = refl
is_nobody (by t) q = absurd (true≢false q)

pub is_by_lem : (h : Who) (t : ℕ) → is_by h t ≡ true → h ≡ by t
is_by_lem nobody t q = absurd (true≢false (sym q))
is_by_lem (by u) t q = ap by (eqb-true u t q)

-- what two events that are the same have in common
same_kind : {e f : Event} → e ≡ f → (event_record e).kind ≡ (event_record f).kind
same_kind q = ap (λ (e : Event). (event_record e).kind) q

same_task : {e f : Event} → e ≡ f → (event_record e).task ≡ (event_record f).task
same_task q = ap (λ (e : Event). (event_record e).task) q

same_on : {e f : Event} → e ≡ f → (event_record e).on ≡ (event_record f).on
same_on q = ap (λ (e : Event). (event_record e).on) q

pub act_keeps : (es : List Event) (o : Op) (t n : ℕ) → ActAllowed (standing es) (kind o) t n → KeepsProfile es (act o t n)
act_keeps es o t n a =
    record {
      owned_once = λ q. a.owned_once (eqb-true (kind o) (kind Op.owned) q);
      no_mark = λ mask q. absurd (eqb-false (kind o) loss_mark (no_mark o) (same_kind q));
      takes_free = λ u s q p. is_nobody (holder es s) (subst (λ (i : ℕ). is_somebody (holder es i) ≡ false) (same_on q) (a.takes_free p (same_kind q)));
      gives_own = λ u s q p.
          is_by_lem (holder es s) u
          (subst (λ (i : ℕ). is_by (holder es s) i ≡ true) (same_task q)
          (subst (λ (i : ℕ). is_by (holder es i) t ≡ true) (same_on q) (a.gives_own p (same_kind q))));
    }

pub mark_keeps : (es : List Event) (n : ℕ) → MarkAllowed (standing es) n → KeepsProfile es (lost n)
mark_keeps es n m =
    record {
      owned_once = λ q. absurd (true≢false (sym q));
      no_mark = λ mask q. m.no_profile;
      takes_free = λ u s q p. absurd (let k = same_kind q in omega arith);
      gives_own = λ u s q p. absurd (let k = same_kind q in omega arith);
    }
