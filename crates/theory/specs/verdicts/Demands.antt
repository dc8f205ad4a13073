-- Demands 2 and 3 over recordings, as types, of whatever gives the verdicts. proofs/verdicts/Demands.antt proves them of what is computed.
use Rattle.std.specs.Prelude.{ℕ, ◌≡◌, ◌↔◌, List}
use Rattle.theory.specs.order.Recording.{Event, Unmarked}
use Rattle.theory.specs.fillings.Completion.{Completion}
use Rattle.theory.specs.verdicts.Verdict.{Verdict, Race, Clear, Doubt, AccessAt, Racy, Unordered}

-- every completion makes the access at place k racy
abbrev pub Always : List Event → ℕ → Type 0
Always es k = (fs : List Event) (c : Completion es fs) → Racy c k

-- no completion does
abbrev pub Never : List Event → ℕ → Type 0
Never es k = (fs : List Event) (c : Completion es fs) → ¬ Racy c k

-- one does
abbrev pub Sometimes : List Event → ℕ → Type 0
Sometimes es k = (fs : List Event) × (c : Completion es fs) × Racy c k

-- one does not
abbrev pub SometimesNot : List Event → ℕ → Type 0
SometimesNot es k = (fs : List Event) × (c : Completion es fs) × (¬ Racy c k)

-- what demand 3 claims of the access at place k of a recording and the verdict that it got
pub record Firm (es : List Event) (k : ℕ) (verdict : Verdict) : Type 0 where
  pub race : (verdict ≡ Race) ↔ Always es k
  pub clear : (verdict ≡ Clear) ↔ Never es k
  pub doubt : (verdict ≡ Doubt) ↔ (Sometimes es k × SometimesNot es k)

-- demand 3: nobody who fills in the lost records can overturn a verdict
abbrev pub Demand3 : (List Event → ℕ → Verdict) → Type 0
Demand3 verdict = (es : List Event) (k : ℕ) → AccessAt es k → Firm es k (verdict es k)

-- demand 2: in a recording without loss marks, Race exactly when an earlier conflicting access has no path to it, and Clear otherwise
abbrev pub Demand2 : (List Event → ℕ → Verdict) → Type 0
Demand2 verdict =
    (es : List Event) (k : ℕ) →
    Unmarked es →
    AccessAt es k →
    ((verdict es k ≡ Race) ↔ Unordered es k) × ((verdict es k ≡ Clear) ↔ (¬ Unordered es k))
