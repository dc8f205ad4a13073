-- What a record is told, by the tasks that it is apart from: it is determined by them, so that swapped lists of records have swapped lines. With faults
-- already accepted and without them. Assumes nothing.
use mathlib.Core.Path.{◌≡◌, refl, sym, ◌∙◌, ap}
use mathlib.Core.Bool.{Bool, true, false, true≢false}
use mathlib.Core.List.{List, [], ◌∷◌, ◌++◌}
use mathlib.Core.Option.{none, some}
use Prim.Native.Nat.{ℕ, zero, suc, ◌≤◌}
use native.Mathlib.Omega.{arith}
use lib.Dec.{T}
use lib.ListN.{get_elem?}
use Rattle.theory.specs.declared.record.Record.{Record}
use Rattle.theory.specs.order.Recording.{Event, event_of}
use Rattle.theory.specs.fillings.Completion.{nothing, rounds}
use Rattle.theory.specs.verdicts.Verdict.{Race, Clear, Doubt}
use Rattle.theory.specs.verdicts.Search.{is_access_event}
use Rattle.requests.specs.swapping.Swaps.{Swapped, these, later, moved}
use Rattle.requests.specs.swapping.Compared.{Said, taken, judged, known, Line}
use Rattle.requests.proofs.swapping.Independent.{Separates, Independent, either_way}
use Rattle.requests.proofs.swapping.Candidates.{swapped_back, swapped_before, HasCandidate, candidate_swapped, candidate_longer, candidate_shorter}

-- Definition

-- the lowest of the tasks that Q holds of
pub record Lowest (Q : ℕ → Type 0) (t : ℕ) : Type 0 where
  pub holds : Q t
  pub lowest : (u : ℕ) → Q u → t ≤ u

-- what an access is told that is apart from the tasks `Full` in the fullest filling and from the tasks `Arrived` as it arrived, `paired` being those
-- that are paired with its task as accepted
pub data Says (paired : ℕ → Bool) (Full Arrived : ℕ → Type 0) : Said → Type 0 where
  says_known : {t : ℕ} → Lowest Full t → ((u : ℕ) → Full u → paired u ≡ true) → Says paired Full Arrived (known (some t))
  says_race : {t : ℕ} → Lowest (λ u. Full u × (paired u ≡ false)) t → Says paired Full Arrived (judged Race (some t))
  says_doubt : {t : ℕ} → ((u : ℕ) → ¬ Full u) → Lowest Arrived t → Says paired Full Arrived (judged Doubt (some t))
  says_clear : ((u : ℕ) → ¬ Full u) → ((u : ℕ) → ¬ Arrived u) → Says paired Full Arrived (judged Clear none)

-- It is determined

lowest_same : {Q Q' : ℕ → Type 0} {t t' : ℕ} → ((u : ℕ) → Q u → Q' u) → ((u : ℕ) → Q' u → Q u) → Lowest Q t → Lowest Q' t' → t ≡ t'
lowest_same {t = t} {t' = t'} to from a b = let h = a.lowest t' (from t' b.holds) in let l = b.lowest t (to t a.holds) in omega arith

module _ {paired : ℕ → Bool} {F F' A A' : ℕ → Type 0} (f : (u : ℕ) → F u → F' u) (f' : (u : ℕ) → F' u → F u) (a : (u : ℕ) → A u → A' u) (a' : (u : ℕ) → A' u → A u) where
  pub says_same : {x y : Said} → Says paired F A x → Says paired F' A' y → x ≡ y
  says_same (says_known l p) (says_known l' p') = ap (λ (t : ℕ). known (some t)) (lowest_same f f' l l')
  says_same (says_known l p) (says_race l') = absurd (true≢false (sym (p _ (f' _ l'.holds.0)) ∙ l'.holds.1))
  says_same (says_known l p) (says_doubt n l') = absurd (n _ (f _ l.holds))
  says_same (says_known l p) (says_clear n n') = absurd (n _ (f _ l.holds))
  says_same (says_race l) (says_known l' p') = absurd (true≢false (sym (p' _ (f _ l.holds.0)) ∙ l.holds.1))
  says_same (says_race l) (says_race l') = ap (λ (t : ℕ). judged Race (some t)) (lowest_same (λ u q. (f u q.0, q.1)) (λ u q. (f' u q.0, q.1)) l l')
  says_same (says_race l) (says_doubt n l') = absurd (n _ (f _ l.holds.0))
  says_same (says_race l) (says_clear n n') = absurd (n _ (f _ l.holds.0))
  says_same (says_doubt n l) (says_known l' p') = absurd (n _ (f' _ l'.holds))
  says_same (says_doubt n l) (says_race l') = absurd (n _ (f' _ l'.holds.0))
  says_same (says_doubt n l) (says_doubt n' l') = ap (λ (t : ℕ). judged Doubt (some t)) (lowest_same a a' l l')
  says_same (says_doubt n l) (says_clear n' m') = absurd (m' _ (a _ l.holds))
  says_same (says_clear n m) (says_known l' p') = absurd (n _ (f' _ l'.holds))
  says_same (says_clear n m) (says_race l') = absurd (n _ (f' _ l'.holds.0))
  says_same (says_clear n m) (says_doubt n' l') = absurd (m _ (a' _ l'.holds))
  says_same (says_clear n m) (says_clear n' m') = refl

-- What a record is told after a recording

-- `paired` has, for an access, the tasks that are paired with its own
module _ (paired : Event → ℕ → Bool) where
  pub data SaidTo (es : List Event) (e : Event) : Said → Type 0 where
    to_access : {x : Said} → T (is_access_event e) → Says (paired e) (HasCandidate rounds e es) (HasCandidate nothing e es) x → SaidTo es e x
    to_other : ¬ T (is_access_event e) → SaidTo es e taken

  -- the lines of a list of records that are taken in one after the other
  pub data SaidAll : List Event → List Record → List Line → Type 0 where
    said_none : {es : List Event} → SaidAll es [] []
    said_next : {es : List Event} {r : Record} {rs : List Record} {x : Said} {ls : List Line} → SaidTo es (event_of r) x → SaidAll (es ++ (event_of r ∷ [])) rs ls →
        SaidAll es (r ∷ rs) (record { of = r; said = x } ∷ ls)

module _ {paired : Event → ℕ → Bool} where
  -- two recordings after which e is apart from the same tasks
  same_said : {es es' : List Event} {e : Event} {x y : Said} →
      ((g : ℕ → List Event) (u : ℕ) → HasCandidate g e es u → HasCandidate g e es' u) → ((g : ℕ → List Event) (u : ℕ) → HasCandidate g e es' u → HasCandidate g e es u) →
      SaidTo paired es e x → SaidTo paired es' e y → x ≡ y
  same_said to from (to_access a s) (to_access b s') = says_same (to rounds) (from rounds) (to nothing) (from nothing) s s'
  same_said to from (to_access a s) (to_other n) = absurd (n a)
  same_said to from (to_other n) (to_access a s) = absurd (n a)
  same_said to from (to_other n) (to_other n') = refl

  pub said_once : {es : List Event} {e : Event} {x y : Said} → SaidTo paired es e x → SaidTo paired es e y → x ≡ y
  said_once = same_said (λ g u c. c) (λ g u c. c)

  said_swapped : {es es' : List Event} {e : Event} {x y : Said} → Swapped Independent es es' → SaidTo paired es e x → SaidTo paired es' e y → x ≡ y
  said_swapped s = same_said (λ g u c. candidate_swapped s c) (λ g u c. candidate_swapped (swapped_back s) c)

  pub said_longer : {es : List Event} {d e : Event} {x y : Said} → Independent d e → SaidTo paired es e x → SaidTo paired (es ++ (d ∷ [])) e y → x ≡ y
  said_longer {es} z = same_said (λ g u c. candidate_longer es z c) (λ g u c. candidate_shorter es z c)

-- Lists

pub swapped_last : (es : List Event) {e f : Event} → Independent e f → Swapped Independent ((es ++ (e ∷ [])) ++ (f ∷ [])) ((es ++ (f ∷ [])) ++ (e ∷ []))
swapped_last [] z = these z
swapped_last (d ∷ es) z = later (swapped_last es z)

module _ {paired : Event → ℕ → Bool} where
  pub all_swapped : {es es' : List Event} {rs : List Record} {ls ls' : List Line} → Swapped Independent es es' → SaidAll paired es rs ls → SaidAll paired es' rs ls' → ls ≡ ls'
  all_swapped s said_none said_none = refl
  all_swapped s (said_next {r = r} a k) (said_next b k') = rw (said_swapped s a b, all_swapped (swapped_before (event_of r ∷ []) s) k k')

  -- the line at place k stands at the place that its record has come to
  pub line_moved : {R : Record → Record → Type 0} {es : List Event} {rs rs' : List Record} {ls ls' : List Line} → Separates R → (s : Swapped R rs rs') → SaidAll paired es rs ls → SaidAll paired es rs' ls' → (k : ℕ) →
      get_elem? ls' (moved s k) ≡ get_elem? ls k
  line_moved i (these {x = r} {y = q} z) (said_next a (said_next b m)) (said_next b' (said_next a' m')) zero = rw (said_longer (either_way (i.independent r q z)) a a')
  line_moved i (these {x = r} {y = q} z) (said_next a (said_next b m)) (said_next b' (said_next a' m')) (suc zero) = rw (said_longer (i.independent r q z) b' b)
  line_moved {es = es} i (these {x = r} {y = q} z) (said_next a (said_next b m)) (said_next b' (said_next a' m')) (suc (suc k)) = rw (all_swapped (swapped_last es (i.independent r q z)) m m')
  line_moved i (later s) (said_next a m) (said_next a' m') zero = rw (said_once a a')
  line_moved {es = es} i (later {x = x} s) (said_next a m) (said_next a' m') (suc k) = line_moved {es = es ++ (event_of x ∷ [])} i s m m' k
