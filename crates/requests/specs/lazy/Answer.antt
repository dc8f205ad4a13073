-- F-6: what the lazy reckoning answers, for every list of records. proofs/lazy proves it of `lazily`.
use Rattle.std.specs.Prelude.{ℕ, suc, ◌≤◌, ◌<◌, ◌≡◌, true, not, ◌&&◌, ◌↔◌, List, [], ◌∷◌, ◌++◌, T, length, Result, Ok}
use Rattle.theory.specs.declared.record.Record.{Record}
use Rattle.theory.specs.declared.masks.Masks.{Masks}
use Rattle.requests.specs.declared.walk.Pairs.{Pairs}
use Rattle.theory.specs.declared.refusal.Refusal.{Refusal}
use Rattle.theory.specs.order.Limits.{tasks}
use Rattle.theory.specs.order.Recording.{Event, event_of, accesses}
use Rattle.theory.specs.order.Path.{HappensBefore}
use Rattle.theory.specs.fillings.Completion.{bit}
use Rattle.theory.specs.acceptance.Table.{recording}
use Rattle.theory.specs.acceptance.Refusals.{refusal_in}
use Rattle.theory.specs.verdicts.Verdict.{Latest}
use Rattle.requests.specs.following.Following.{fed_refusal, AnswersWithout}
use Rattle.theory.specs.feeding.Paths.{set_reckoning, left_by}
use Rattle.requests.specs.lazy.Walk.{WalkedInAll, BetweenInAll}
use Rattle.requests.specs.lazy.Fold.{no_pairs}

-- the answer for an access of task t to variable v that stands at place k and ends the recording es, beside the eager sets' masks for it
pub record Told (es : List Event) (t v k : ℕ) (eager : Masks) (a : Pairs) : Type 0 where
  -- a pair: "each other task's latest conflicting access"
  pub pairs : (u : ℕ) → u < tasks → T (bit a.pairs u) ↔ ((i : ℕ) × Latest es u i k)
  -- "whether a path leads here"
  pub paths : (u : ℕ) → u < tasks → T (bit a.paths u) ↔ ((i : ℕ) × Latest es u i k × HappensBefore es i k)
  -- "Its yes or no for each pair equals that of the eager sets"
  pub as_eager : (u : ℕ) → u < tasks → bit a.paths u ≡ (bit a.pairs u && not (bit eager.arrived u))
  -- "That number equals the walk as defined here"
  pub walked : WalkedInAll es t v k a.walked
  -- "and is at most the number of such records in between, summed likewise"
  pub bounded : (n : ℕ) → BetweenInAll es k n → a.walked ≤ n

-- of whatever answers lists of records
pub record AnswersLazily (answer : List Record → Result Pairs Refusal) : Type 0 where
  -- "gets no pairs and a count of 0", or the refusal
  pub without : AnswersWithout no_pairs answer
  -- of the first refused record
  pub number : (rs : List Record) (n : ℕ) → fed_refusal rs ≡ suc n → refusal_in (answer rs) ≡ suc n
  pub access_end : (rs : List Record) (q : Record) → fed_refusal (rs ++ (q ∷ [])) ≡ 0 → accesses q.kind ≡ true →
      (a : Pairs) × (answer (rs ++ (q ∷ [])) ≡ Ok a) × Told (recording rs ++ (event_of q ∷ [])) q.task q.on (length (recording rs)) (set_reckoning.masks (left_by set_reckoning rs) q) a
