-- What is computed: the verdict and the partner of an access, by a plain search over explicit lists.
-- proofs/verdicts/Search.antt proves that this is what Verdict.antt and Demands.antt mean.
use Rattle.std.specs.Prelude.{ℕ, zero, suc, Bool, true, false, cond, not, ◌&&◌, ◌||◌, List, [], ◌∷◌, ◌++◌, leb, eqb, get_or, length}
use Rattle.std.proofs.Math.Option.{Option, none, some}
use Rattle.std.proofs.Math.ListN as ListN
use Rattle.theory.specs.order.Recording.{take, give, look, set, start, join, fresh, Event, act, lost, ◌is◌, is_access}
use Rattle.theory.specs.order.Path.{clashes}
use Rattle.theory.specs.fillings.Completion.{fill_with, nothing, rounds}
use Rattle.theory.specs.verdicts.Verdict.{Verdict, Race, Clear, Doubt}

-- whether there is a step from the one event to the other, if that stands later
abbrev pub steps : Event → Event → Bool
steps (act o t n) (act p u m) =
    eqb t u
    || (o is give && p is take && eqb n m)
    || (o is set && p is look && eqb n m)
    || (o is start && eqb n u)
    || (p is join && eqb t m)
steps (act o t n) (lost mask) = false
steps (lost mask) (act p u m) = false
steps (lost mask) (lost mask') = false

-- whether the test passes at one of the events. It stops there, which keeps long lists cheap.
abbrev pub any : (Event → Bool) → List Event → Bool
any p [] = false
any p (e ∷ es) = elim (p e) [ true ↦ true | false ↦ any p es ]

-- whether a path leads from one of the events in `reached` over those between to f
abbrev pub reaches : List Event → List Event → Event → Bool
reaches reached [] f = any (λ e. steps e f) reached
reaches reached (x ∷ mid) f = elim (any (λ e. steps e x) reached) [ true ↦ reaches (x ∷ reached) mid f | false ↦ reaches reached mid f ]

abbrev pub conflicts : Event → Event → Bool
conflicts (act o t v) (act p u w) = (not (eqb t u) && clashes o p) && eqb v w
conflicts (act o t v) (lost mask) = false
conflicts (lost mask) (act p u w) = false
conflicts (lost mask) (lost mask') = false

-- whether e empties the history of the variable that f accesses
abbrev pub empties : Event → Event → Bool
empties (act o t v) (act p u w) = o is fresh && eqb v w
empties (act o t v) (lost mask) = false
empties (lost mask) (act p u w) = false
empties (lost mask) (lost mask') = false

-- whether f is held against e, with `mid` between the two
abbrev pub against : Event → List Event → Event → Bool
against e mid f = conflicts e f && not (any (λ d. empties d f) mid)

-- whether task t acts in the event
abbrev pub acts_in : ℕ → Event → Bool
acts_in t (act o u n) = eqb t u
acts_in t (lost mask) = false

-- whether an access of task t among the events conflicts with f
abbrev pub again : ℕ → Event → List Event → Bool
again t f = any (λ e. acts_in t e && conflicts e f)

-- an access, by its task and its record number
pub record Found : Type 0 where
  pub task : ℕ
  pub number : ℕ

-- whether e, with `after` between it and f, is its task's latest access that f is held against and has no path to f in the filling g
abbrev pub apart : (ℕ → List Event) → Event → Event → List Event → Bool
apart g f (act o t n) after =
    elim (against (act o t n) after f && not (again t f after)) [
      | true ↦ not (reaches (act o t n ∷ []) (fill_with g after) f)
      | false ↦ false
    ]
apart g f (lost mask) after = false

abbrev pub lower : Found → Option Found → Found
lower x none = x
lower x (some y) = cond (leb x.task y.task) x y

abbrev pub found : Event → ℕ → Found
found (act o t n) number = record { task = t; number = number }
found (lost mask) number = record { task = zero; number = number }

-- of the events, the first having the record number n, the one of the lowest task that is apart from f
abbrev pub partner : (ℕ → List Event) → Event → ℕ → List Event → Option Found
partner g f n [] = none
partner g f n (e ∷ es) = cond (apart g f e es) (some (lower (found e n) (partner g f (suc n) es))) (partner g f (suc n) es)

-- a verdict with its partner's record number
pub record Judgement : Type 0 where
  pub verdict : Verdict
  pub partner : ℕ

abbrev pub judgement : Option Found → Option Found → Judgement
judgement (some x) y = record { verdict = Race; partner = x.number }
judgement none (some y) = record { verdict = Doubt; partner = y.number }
judgement none none = record { verdict = Clear; partner = zero }

-- the verdict on an access f, with what stands before it in the recording
unfoldable pub judge : List Event → Event → Judgement
judge before f = judgement (partner rounds f 1 before) (partner nothing f 1 before)

-- the verdict on the access at place k of a recording; what comes after it does not matter
abbrev pub judge_at : List Event → ℕ → Judgement
judge_at es k = judge (ListN.take k es) (get_or es k (lost zero))

abbrev pub verdict_at : List Event → ℕ → Verdict
verdict_at es k = (judge_at es k).verdict

-- a finding: the record number of an access, its verdict and its partner
pub record Finding : Type 0 where
  pub number : ℕ
  pub verdict : Verdict
  pub partner : ℕ

abbrev pub finding : ℕ → Judgement → Finding
finding n j = record { number = n; verdict = j.verdict; partner = j.partner }

abbrev pub is_access_event : Event → Bool
is_access_event (act o t n) = is_access o
is_access_event (lost mask) = false

-- the findings for the accesses among `rest`, which stand after those passed
abbrev pub findings_after : List Event → List Event → List Finding
findings_after before [] = []
findings_after before (e ∷ rest) =
    elim (is_access_event e) [
      | true ↦ finding (suc (length before)) (judge before e) ∷ findings_after (before ++ (e ∷ [])) rest
      | false ↦ findings_after (before ++ (e ∷ [])) rest
    ]

-- the findings for the accesses of a recording, in their order
abbrev pub findings : List Event → List Finding
findings = findings_after []
