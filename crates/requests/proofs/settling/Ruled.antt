-- What follows for a home set from the answers at a list's end: the verdicts, the empty and the full set, and larger sets. Assumes nothing.
use Rattle.std.specs.Prelude.{Ok}
use mathlib.Core.Path.{◌≡◌, refl, sym, ◌∙◌, ap, subst}
use mathlib.Core.Bool.{Bool, true, false, cond}
use mathlib.Core.List.{List, [], ◌∷◌, ◌++◌}
use Prim.Native.Nat.{ℕ, zero, suc}
use lib.Dec.{T}
use lib.ListN.{length}
use Rattle.theory.specs.declared.record.Record.{Record}
use Rattle.requests.specs.declared.settled.Settled.{Settled}
use Rattle.theory.specs.order.Recording.{Event, event_of, accesses}
use Rattle.theory.specs.acceptance.Table.{recording}
use Rattle.requests.specs.following.Following.{fed_refusal, AnswersWithout}
use Rattle.requests.specs.settling.Forcing.{Forced}
use Rattle.requests.specs.settling.Fold.{Settling, unsettled}
use Rattle.requests.specs.settling.Answer.{Includes, SameTasks, Yes, AnsweredAt, Settles}
use Rattle.requests.proofs.following.Following.{EmptyOrLast, empty, snoc, snoc_of, fed_number}
use Rattle.requests.proofs.settling.Forcing.{never_can, always_cannot, empty_cannot, full_can, larger_can}

-- Definition

-- the answer is yes or no, and the right one
abbrev pub SaysRight : ℕ → List Event → ℕ → Settling → Type 0
SaysRight home es k a = (b : Bool) × (a ≡ Ok (cond b Settled.Yes Settled.No)) × Forced home es k b

-- what is answered at a list's end
pub record EndsRight (answer : ℕ → List Record → Settling) : Type 0 where
  pub without : (home : ℕ) → AnswersWithout unsettled (answer home)
  pub says : (home : ℕ) (rs : List Record) (q : Record) → fed_refusal (rs ++ (q ∷ [])) ≡ 0 → accesses q.kind ≡ true →
      SaysRight home (recording rs ++ (event_of q ∷ [])) (length (recording rs)) (answer home (rs ++ (q ∷ [])))

-- One access

module _ (home : ℕ) (es : List Event) (k : ℕ) (a : Settling) where
  answered_at_lem : SaysRight home es k a → AnsweredAt home es k a
  answered_at_lem (b, e, f) =
      record {
        says = (b, e, f);
        clear = λ v. yes (f.yes.1 (never_can home (v.clear.0 refl)));
        race = λ v. no (f.no.1 (always_cannot home (v.race.0 refl)));
        empty_set = λ v none. no (f.no.1 (empty_cannot home none (v.doubt.0 refl).0));
        full_set = λ v all. yes (f.yes.1 (full_can home all (v.doubt.0 refl).1));
      }
    where
      yes : b ≡ true → a ≡ Ok Settled.Yes
      yes q = e ∙ rw q

      no : b ≡ false → a ≡ Ok Settled.No
      no q = e ∙ rw q

-- Two home sets

unsettled_not : (n : ℕ) → ¬ Yes (unsettled n)
unsettled_not zero e = cc
unsettled_not (suc n) e = cc

is_yes : (b : Bool) → Yes (Ok (cond b Settled.Yes Settled.No)) → b ≡ true
is_yes true e = refl
is_yes false e = cc

module _ {answer : ℕ → List Record → Settling} (x : EndsRight answer) where
  -- a list's answer is one for every home set, and not yes, or it says of each whether it can force Clear
  data Ruled (rs : List Record) : Type 0 where
    alike : (a : Settling) → ¬ Yes a → ((home : ℕ) → answer home rs ≡ a) → Ruled rs
    asked : (es : List Event) (k : ℕ) → ((home : ℕ) → SaysRight home es k (answer home rs)) → Ruled rs

  ruled : (rs : List Record) → Ruled rs
  ruled rs = of (snoc_of rs)
    where
      of : {rs : List Record} → EmptyOrLast rs → Ruled rs
      of empty = alike (unsettled 0) (unsettled_not 0) (λ home. (x.without home).empty)
      of (snoc rs q) = decided (fed_refusal (rs ++ (q ∷ []))) (accesses q.kind) refl refl
        where
          decided : (n : ℕ) (b : Bool) → fed_refusal (rs ++ (q ∷ [])) ≡ n → accesses q.kind ≡ b → Ruled (rs ++ (q ∷ []))
          decided (suc n) b e a = alike (unsettled (suc n)) (unsettled_not (suc n)) (λ home. (x.without home).refused (rs ++ (q ∷ [])) n e)
          decided zero false e a = alike (unsettled 0) (unsettled_not 0) (λ home. (x.without home).other_end rs q e a)
          decided zero true e a = asked (recording rs ++ (event_of q ∷ [])) (length (recording rs)) (λ home. x.says home rs q e a)

  larger : (home home' : ℕ) (rs : List Record) → Includes home' home → Yes (answer home rs) → Yes (answer home' rs)
  larger home home' rs more y = of (ruled rs)
    where
      of : Ruled rs → Yes (answer home' rs)
      of (alike a n e) = absurd (n (sym (e home) ∙ y))
      of (asked es k s) =
          let (b, e, f) = s home in
          let (b', e', f') = s home' in
          let q = f'.yes.1 (larger_can home home' more (f.yes.0 (is_yes b (sym e ∙ y)))) in
          e' ∙ rw q

  same_tasks : (home home' : ℕ) (rs : List Record) → SameTasks home home' → answer home rs ≡ answer home' rs
  same_tasks home home' rs same = of (ruled rs)
    where
      more : Includes home' home
      more t h y = subst T (same t h) y

      less : Includes home home'
      less t h y = subst T (sym (same t h)) y

      both : (b b' : Bool) → (b ≡ true → b' ≡ true) → (b' ≡ true → b ≡ true) → b ≡ b'
      both true b' to from = sym (to refl)
      both false true to from = from refl
      both false false to from = refl

      of : Ruled rs → answer home rs ≡ answer home' rs
      of (alike a n e) = e home ∙ sym (e home')
      of (asked es k s) =
          let (b, e, f) = s home in
          let (b', e', f') = s home' in
          let q = both b b' (λ z. f'.yes.1 (larger_can home home' more (f.yes.0 z))) (λ z. f.yes.1 (larger_can home' home less (f'.yes.0 z))) in
          e ∙ (ap (λ (c : Bool). Ok (cond c Settled.Yes Settled.No)) q ∙ sym e')

  pub settled_by : Settles answer
  settled_by =
      record {
        without = x.without;
        number = λ home. fed_number unsettled (λ n. refl) (x.without home);
        access_end = λ home rs q e a. answered_at_lem home (recording rs ++ (event_of q ∷ [])) (length (recording rs)) (answer home (rs ++ (q ∷ []))) (x.says home rs q e a);
        larger = larger;
        same_tasks = same_tasks;
      }
