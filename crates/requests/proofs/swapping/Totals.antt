-- Swaps of unrelated neighbours change no total, and not whether there is a Race anywhere. Assumes nothing.
use mathlib.Core.Path.{◌≡◌, refl, sym, ◌∙◌}
use mathlib.Core.Bool.{Bool, true, false, ◌&&◌}
use mathlib.Core.Logic.{◌↔◌}
use mathlib.Core.List.{List, [], ◌∷◌, ◌++◌, map}
use Prim.Native.Nat.{ℕ, ◌+◌, ◌<◌}
use native.Mathlib.Omega.{arith}
use lib.Dec.{eqb}
use Rattle.theory.specs.declared.record.Record.{Record}
use Rattle.theory.specs.order.Limits.{variables}
use Rattle.theory.specs.order.Recording.{Event, event_of}
use Rattle.theory.specs.verdicts.Verdict.{Verdict, Race}
use Rattle.theory.specs.basics.Turns.{indicator}
use Rattle.theory.specs.feeding.Meaning.{Meaning, refuses, takes, judges, meaning}
use Rattle.theory.specs.feeding.Feeding.{Checker, replies, runs, AnswersByTable, by_clocks, by_sets}
use Rattle.theory.specs.totals.Totals.{verdict_place, total, any_race}
use Rattle.theory.specs.totals.Counting.{counts, given, is_race, SomeRace, KeepsTotals}
use Rattle.requests.specs.swapping.Unrelated.{UnrelatedRecords, MissedRecords}
use Rattle.requests.specs.swapping.Swaps.{Swapped, these, later, Swaps, no_swap, swap_then}
use Rattle.requests.specs.swapping.Compared.{Said, refused, taken, judged, known, said, Line, lines_among, lines, control_after_all, SameTotals}
use Rattle.theory.proofs.totals.Kept.{race_count, some_race, clocks_keep_totals, sets_keep_totals}
use Rattle.theory.proofs.feeding.Demanded.{clocks_demanded, sets_demanded}
use Rattle.requests.proofs.swapping.Acceptance.{Taken, taken_swapped}
use Rattle.requests.proofs.swapping.Says.{SaidAll, said_next, swapped_last, all_swapped, said_longer, said_once}
use Rattle.requests.proofs.swapping.Independent.{Separates, unrelated_separates, missed_separates, either_way}
use Rattle.requests.proofs.swapping.Verdicts.{taken_list, said_list}

-- Sums over lines

module _ (weight : Line → ℕ) where
  abbrev sum : List Line → ℕ
  sum [] = 0
  sum (l ∷ ls) = weight l + sum ls

  sum_moved : {R : Record → Record → Type 0} {paired : Event → ℕ → Bool} {es : List Event} {rs rs' : List Record} {ls ls' : List Line} → Separates R → Swapped R rs rs' → SaidAll paired es rs ls → SaidAll paired es rs' ls' →
      sum ls' ≡ sum ls
  sum_moved {es = es} i (these {x = r} {y = q} y) (said_next a (said_next b m)) (said_next b' (said_next a' m')) =
      let z = i.independent r q y in
      rw (said_longer (either_way z) a a', ← said_longer z b' b, all_swapped (swapped_last es z) m m') (omega arith)
  sum_moved {es = es} i (later {x = x} s) (said_next a m) (said_next a' m') = rw (said_once a a', sum_moved {es = es ++ (event_of x ∷ [])} i s m m')

-- Totals as such sums

-- what counts for the verdict w on variable v
abbrev weight : Verdict → ℕ → Record → Said → ℕ
weight w v r (refused n) = 0
weight w v r taken = 0
weight w v r (judged x p) = indicator (eqb (verdict_place x) (verdict_place w) && eqb r.on v)
weight w v r (known p) = 0

abbrev weighs : Verdict → ℕ → Line → ℕ
weighs w v l = weight w v l.of l.said

-- what is a Race
abbrev race_weight : Said → ℕ
race_weight (refused n) = 0
race_weight taken = 0
race_weight (judged x p) = indicator (eqb (verdict_place x) (verdict_place Race))
race_weight (known p) = 0

abbrev weighs_race : Line → ℕ
weighs_race l = race_weight l.said

counted : (w : Verdict) (v : ℕ) (all : List Record) (r : Record) (m : Meaning) → counts w v r m ≡ weight w v r (said all m)
counted w v all r (refuses n) = refl
counted w v all r (takes n) = refl
counted w v all r (judges n x p) = refl

given_sum : (w : Verdict) (v : ℕ) (all rs : List Record) (answers : List Meaning) → given w v rs answers ≡ sum (weighs w v) (lines_among all rs answers)
given_sum w v all [] answers = refl
given_sum w v all (r ∷ rs) [] = refl
given_sum w v all (r ∷ rs) (m ∷ answers) = rw (counted w v all r m, given_sum w v all rs answers)

counted_race : (all : List Record) (m : Meaning) → indicator (is_race m) ≡ race_weight (said all m)
counted_race all (refuses n) = refl
counted_race all (takes n) = refl
counted_race all (judges n x p) = refl

module _ {S : Type 0} (c : Checker S) where
  races_sum : (all : List Record) (s : S) (rs : List Record) → race_count (map meaning (replies c s rs)) ≡ sum weighs_race (lines_among all rs (map meaning (replies c s rs)))
  races_sum all s [] = refl
  races_sum all s (r ∷ rs) = rw (counted_race all (meaning (c.answer s r)), races_sum all (c.next s r) rs)

-- The claim, of a checker that answers by the table and keeps its totals

same_test : {P : Type 0} {a b : Bool} → (a ≡ true) ↔ P → (b ≡ true) ↔ P → a ≡ b
same_test {a = true} {b = b} x y = sym (y.1 (x.0 refl))
same_test {a = false} {b = true} x y = x.1 (y.0 refl)
same_test {a = false} {b = false} x y = refl

module _ {S : Type 0} {R : Record → Record → Type 0} (i : Separates R) (c : Checker S) (right : AnswersByTable (runs c)) (keeps : KeepsTotals c) where
  -- one swap
  module _ {rs rs' : List Record} (s : Swapped R rs rs') (k : Taken [] rs) where
    same_sum : (f : Line → ℕ) → sum f (lines (runs c) rs') ≡ sum f (lines (runs c) rs)
    same_sum f = sum_moved f i s (said_list (runs c) right k) (said_list (runs c) right (taken_swapped i s k))

    one_total : (w : Verdict) (v : ℕ) → v < variables → total w v (control_after_all c rs') ≡ total w v (control_after_all c rs)
    one_total w v h =
        (keeps rs').each w v h
        ∙ (given_sum w v rs' rs' (map meaning (runs c rs')) ∙ (same_sum (weighs w v) ∙ (sym (given_sum w v rs rs (map meaning (runs c rs))) ∙ sym ((keeps rs).each w v h))))

    same_races : race_count (map meaning (runs c rs')) ≡ race_count (map meaning (runs c rs))
    same_races = races_sum c rs' c.fresh rs' ∙ (same_sum weighs_race ∙ sym (races_sum c rs c.fresh rs))

    some_same : SomeRace (map meaning (runs c rs')) ↔ SomeRace (map meaning (runs c rs))
    some_same = (
      λ x. (some_race (map meaning (runs c rs))).0 (rw same_races at ((some_race (map meaning (runs c rs'))).1 x)),
      λ x. (some_race (map meaning (runs c rs'))).0 (rw same_races ((some_race (map meaning (runs c rs))).1 x)),
    )

    one_race : any_race (control_after_all c rs') ≡ any_race (control_after_all c rs)
    one_race =
        same_test (λ e. some_same.0 ((keeps rs').any_race_lem.0 e), λ x. (keeps rs').any_race_lem.1 (some_same.1 x)) (keeps rs).any_race_lem

  each : {rs rs' : List Record} → Swaps R rs rs' → Taken [] rs → (w : Verdict) (v : ℕ) → v < variables → total w v (control_after_all c rs') ≡ total w v (control_after_all c rs)
  each no_swap k w v h = refl
  each (swap_then s ss) k w v h = each ss (taken_swapped i s k) w v h ∙ one_total s k w v h

  any_race_lem : {rs rs' : List Record} → Swaps R rs rs' → Taken [] rs → any_race (control_after_all c rs') ≡ any_race (control_after_all c rs)
  any_race_lem no_swap k = refl
  any_race_lem (swap_then s ss) k = any_race_lem ss (taken_swapped i s k) ∙ one_race s k

  pub same_totals : SameTotals R c
  same_totals = record { each = λ s a. each s (taken_list (runs c) right a); any_race_lem = λ s a. any_race_lem s (taken_list (runs c) right a) }

-- of the step, which goes by the clocks
pub clocks_same_totals : SameTotals UnrelatedRecords by_clocks
clocks_same_totals = same_totals unrelated_separates by_clocks clocks_demanded.by_table clocks_keep_totals

-- of the sets
pub sets_same_totals : SameTotals UnrelatedRecords by_sets
sets_same_totals = same_totals unrelated_separates by_sets sets_demanded.by_table sets_keep_totals

-- with a miss
pub clocks_missed_totals : SameTotals MissedRecords by_clocks
clocks_missed_totals = same_totals missed_separates by_clocks clocks_demanded.by_table clocks_keep_totals

pub sets_missed_totals : SameTotals MissedRecords by_sets
sets_missed_totals = same_totals missed_separates by_sets sets_demanded.by_table sets_keep_totals
