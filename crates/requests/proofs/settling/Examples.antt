-- The table of short recordings follows from the definitions: the search over home's best is computed, and it answers. Assumes nothing.
use Rattle.std.specs.Prelude.{Ok}
use mathlib.Core.Path.{◌≡◌, refl, sym, ap, subst, ◌∙◌}
use mathlib.Core.Bool.{Bool, true, false, cond, ◌&&◌}
use mathlib.Core.List.{List, [], ◌∷◌, ◌++◌, map, tail}
use mathlib.Core.Option.{Option, none, some}
use Prim.Native.Nat.{ℕ}
use lib.Dec.{T}
use lib.ListN.{length, get_or}
use Rattle.theory.specs.basics.Turns.{turns}
use Rattle.theory.specs.order.Recording.{Op, Event, act, lost, is_access}
use Rattle.theory.specs.order.Path.{rule}
use Rattle.theory.specs.fillings.Completion.{part, round, rounds, on_each, filling}
use Rattle.theory.specs.acceptance.Table.{standing_refusal, recording}
use Rattle.theory.specs.verdicts.Search.{Found, partner}
use Rattle.theory.specs.feeding.Feeding.{event_record}
use Rattle.requests.specs.following.Following.{fed_refusal}
use Rattle.requests.specs.settling.Forcing.{Forced}
use Rattle.requests.specs.declared.settled.Settled.{Settled}
use Rattle.requests.specs.settling.Fold.{home_only, settles}
use Rattle.requests.specs.settling.Examples.{Question, AllForced, no_rows, and_row, questions, records_of, SettledExamples}
use Rattle.theory.proofs.basics.Reflects.{by_test, both, passed, is_true}
use Rattle.theory.proofs.order.Numbered.{same, same_true}
use Rattle.theory.proofs.order.Ops.{event_act, access_tests}
use Rattle.theory.proofs.verdicts.Search.{Outcome, partner_outcome}
use Rattle.theory.proofs.verdicts.Examples.{ends_middle}
use Rattle.requests.proofs.settling.Forcing.{forced_by}
use Rattle.requests.proofs.settling.Answer.{settled}

-- What is computed

nobody : Option Found → Bool
nobody none = true
nobody (some x) = false

forced_found : (home : ℕ) (before : List Event) (o : Op) (t n : ℕ) (x : Option Found) → Outcome (filling (home_only home)) (act o t n) 1 before x →
    Forced home (before ++ (act o t n ∷ [])) (length before) (nobody x)
unfolding nobody
forced_found home before o t n none y = forced_by home (ends_middle before []) true (record { task = 0; number = 0 }) y
forced_found home before o t n (some x) y = forced_by home (ends_middle before []) false x y

-- the row ends in an access, and its answer is what the search finds
right_row : Question → Bool
right_row x = of x.access
  where
    of : Event → Bool
    of (act o t n) = is_access o && same (nobody (partner (filling (home_only x.home)) (act o t n) 1 x.before)) x.forced
    of (lost mask) = false

right_rows : List Question → Bool
right_rows [] = true
right_rows (x ∷ xs) = right_row x && right_rows xs

-- Rows

data Good : Question → Type 0 where
  good : {before : List Event} {home : ℕ} {b : Bool} (o : Op) (t n : ℕ) → T (is_access o) → Forced home (before ++ (act o t n ∷ [])) (length before) b →
      Good (record { before = before; access = act o t n; home = home; forced = b })

good_row : (x : Question) → T (right_row x) → Good x
unfolding right_row
good_row x y = of x.access y
  where
    of : (f : Event) → T (right_row (record { before = x.before; access = f; home = x.home; forced = x.forced })) →
        Good (record { before = x.before; access = f; home = x.home; forced = x.forced })
    of (act o t n) y =
        let found = partner (filling (home_only x.home)) (act o t n) 1 x.before in
        let (a, e) = passed (both (by_test (is_access o)) (by_test (same (nobody found) x.forced))) y in
        good o t n a
        (subst (Forced x.home (x.before ++ (act o t n ∷ [])) (length x.before))
        (same_true (nobody found) x.forced (is_true (by_test (same (nobody found) x.forced)) e))
        (forced_found x.home x.before o t n found (partner_outcome 1 x.before)))
    of (lost mask) y = absurd y

data AllGood : List Question → Type 0 where
  none_left : AllGood []
  one_more_lem : {x : Question} {xs : List Question} → Good x → AllGood xs → AllGood (x ∷ xs)

all_good : (xs : List Question) → T (right_rows xs) → AllGood xs
unfolding right_rows
all_good [] y = none_left
all_good (x ∷ xs) y = let (a, b) = passed (both (by_test (right_row x)) (by_test (right_rows xs))) y in one_more_lem (good_row x a) (all_good xs b)

-- The table

table_good : AllGood questions
unfolding right_rows right_row nobody part round rounds on_each rule
table_good = all_good questions tt

all_forced : {xs : List Question} → AllGood xs → AllForced xs
all_forced none_left = no_rows
all_forced (one_more_lem (good o t n a f) g) = and_row f (all_forced g)

pub examples_forced : AllForced questions
examples_forced = all_forced table_good

-- Fed

-- there is one right answer
one_answer : {home : ℕ} {es : List Event} {k : ℕ} (b c : Bool) → Forced home es k b → Forced home es k c → b ≡ c
one_answer true c f g = sym (g.yes.1 (f.yes.0 refl))
one_answer false c f g = sym (g.no.1 (f.no.0 refl))

row_settled : {x : Question} → Good x → recording (map event_record x.before) ≡ x.before → fed_refusal (records_of x) ≡ 0 →
    settles x.home (records_of x) ≡ Ok (cond x.forced Settled.Yes Settled.No)
row_settled (good {before = before} {home = home} {b = b} o t n a f) e q =
    let (c, s, g) = (settled.access_end home (map event_record before) (event_record (act o t n)) q (access_tests o a)).says in
    s ∙ ap (λ (d : Bool). Ok (cond d Settled.Yes Settled.No)) (one_answer c b (rw (e, event_act o t n) at g) f)

rows_settled : {xs : List Question} → AllGood xs → map (λ (x : Question). recording (map event_record x.before)) xs ≡ map (λ (x : Question). x.before) xs →
    map (λ (x : Question). fed_refusal (records_of x)) xs ≡ map (λ (x : Question). 0) xs →
    map (λ (x : Question). settles x.home (records_of x)) xs ≡ map (λ (x : Question). Ok (cond x.forced Settled.Yes Settled.No)) xs
rows_settled none_left e q = refl
rows_settled (one_more_lem g gs) e q = rw (row_settled g (ap first_list e) (ap first_number q), rows_settled gs (ap tail e) (ap tail q))
  where
    first_list : List (List Event) → List Event
    first_list l = get_or l 0 []

    first_number : List ℕ → ℕ
    first_number l = get_or l 0 0

pub examples_settled : SettledExamples settles
unfolding turns standing_refusal
examples_settled = rows_settled table_good refl refl
