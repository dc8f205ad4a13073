-- Each premise of F-11 is needed, and what holds of the examples: the tables are computed. Assumes nothing.
use mathlib.Core.Path.{◌≡◌, refl, sym, ◌∙◌, ap, subst}
use mathlib.Core.Bool.{Bool, true, false, not, ◌&&◌, ◌||◌, true≢false}
use mathlib.Core.Logic.{◌≢◌}
use mathlib.Core.List.{List, [], ◌∷◌, ◌++◌, map, head-eq_of_cons-eq, tail-eq_of_cons-eq}
use mathlib.Mathlib.Data.Bool.Basic.{and_elim_left, and_elim_right}
use mathlib.Core.Option.{Option, none, some}
use Prim.Native.Nat.{ℕ, zero, suc, ◌+◌, ◌*◌}
use borrow.Author.Tests.{eq-eqb, eqb-true}
use lib.Dec.{T, eqb}
use lib.ListN.{get_or}
use Rattle.theory.specs.order.Recording.{Op, take, give, miss, Event, act, lost, ActsIn, acts, no_events, an_act, ◌is◌, Series, task, semaphore, flag, variable, profile, series}
use Rattle.theory.specs.order.Path.{rule}
use Rattle.theory.specs.fillings.Completion.{rounds, round, part, on_each}
use Rattle.theory.specs.basics.Turns.{turns}
use Rattle.theory.specs.acceptance.Table.{standing_refusal}
use Rattle.theory.specs.verdicts.Search.{judge}
use Rattle.theory.specs.totals.Totals.{verdict_place}
use Rattle.theory.specs.feeding.Meaning.{Meaning, is_refusal}
use Rattle.theory.specs.feeding.Feeding.{answers_from, event_record}
use Rattle.requests.specs.swapping.Unrelated.{Names, names, sharing, MayShare, may_share, Premise, two_acts, actors_differ, names_no_actor, names_no_same, no_semaphore, no_flag, no_variable, none_owned, Holds, first_misses, second_misses}
use Rattle.requests.specs.swapping.Compared.{Accepted, none_left, and_accepted, Said, refused, taken, judged, known}
use Rattle.requests.specs.swapping.Examples.{Related, logged, exchanged, new_place, told_at, Changes, AllChange, EachNeeded, related, Pair, AllUnrelated, unrelated_pairs, AllMissed, missed_pairs, holding, EitherOrder, HeldPairs, NumbersShift}
use Rattle.theory.proofs.basics.Reflects.{fails, equal, passed}
use Rattle.theory.proofs.order.Ops.{same_op}

-- A test of each premise

abbrev tag : Series → ℕ
tag task = 0
tag semaphore = 1
tag flag = 2
tag variable = 3
tag profile = 4

abbrev is_of : Series → Op → Bool
is_of x o = eqb (tag (series o)) (tag x)

-- both acts name one number of the series
abbrev both_name : Series → Op → ℕ → Op → ℕ → Bool
both_name x o n p m = is_of x o && (is_of x p && eqb n m)

abbrev holds_of_acts : Premise → Op → ℕ → ℕ → Op → ℕ → ℕ → Bool
holds_of_acts two_acts o t n p u m = true
holds_of_acts actors_differ o t n p u m = not (eqb t u)
holds_of_acts names_no_actor o t n p u m = not (is_of task o && eqb n u) && not (is_of task p && eqb m t)
holds_of_acts names_no_same o t n p u m = not (both_name task o n p m)
holds_of_acts no_semaphore o t n p u m = not (both_name semaphore o n p m)
holds_of_acts no_flag o t n p u m = not (both_name flag o n p m)
holds_of_acts no_variable o t n p u m = not (both_name variable o n p m) || (o is p && sharing o)
holds_of_acts none_owned o t n p u m = not (is_of profile o) && not (is_of profile p)

-- with a mark among the two, and whether the other is no `owned`
abbrev holds_of_mark : Premise → Bool → Bool
holds_of_mark two_acts b = false
holds_of_mark actors_differ b = true
holds_of_mark names_no_actor b = true
holds_of_mark names_no_same b = true
holds_of_mark no_semaphore b = true
holds_of_mark no_flag b = true
holds_of_mark no_variable b = true
holds_of_mark none_owned b = b

abbrev holds_test : Premise → Event → Event → Bool
holds_test q (act o t n) (act p u m) = holds_of_acts q o t n p u m
holds_test q (act o t n) (lost mask) = holds_of_mark q (not (is_of profile o))
holds_test q (lost mask) (act p u m) = holds_of_mark q (not (is_of profile p))
holds_test q (lost mask) (lost mask') = holds_of_mark q true

-- What passes it holds

self_test : (n : ℕ) → eqb n n ≡ true
self_test n = eq-eqb n n refl

actor_is : {o : Op} {x t n : ℕ} → ActsIn x (act o t n) → x ≡ t
actor_is acts = refl

number_is : {x : Series} {k : ℕ} {o : Op} {t n : ℕ} → Names x k (act o t n) → n ≡ k
number_is (names e) = refl

series_is : {x : Series} {k : ℕ} {o : Op} {t n : ℕ} → Names x k (act o t n) → is_of x o ≡ true
series_is {x} (names e) = rw e (self_test (tag x))

not_both : (x : Series) (k : ℕ) {o p : Op} {t u n m : ℕ} → T (not (both_name x o n p m)) → Names x k (act o t n) → ¬ Names x k (act p u m)
not_both x k h a b = rw (series_is a, series_is b, number_is a, number_is b, self_test k) at h

not_task : (x : ℕ) {o p : Op} {t u n m : ℕ} → T (not (is_of task o && eqb n u)) → Names task x (act o t n) → ¬ ActsIn x (act p u m)
not_task x {u = u} h a b = rw (series_is a, number_is a, actor_is b, self_test u) at h

not_owned : (k : ℕ) {o : Op} {t n : ℕ} → T (not (is_of profile o)) → ¬ Names profile k (act o t n)
not_owned k h a = rw (series_is a) at h

no_actor : {t mask : ℕ} → ¬ ActsIn t (lost mask)
no_actor a = elim a [ ]

no_name : {x : Series} {n mask : ℕ} → ¬ Names x n (lost mask)
no_name a = elim a [ ]

split : (a b : Bool) → T (a && b) → T a × T b
split true b x = (tt, x)
split false b x = absurd x

module _ (o : Op) (t n : ℕ) (p : Op) (u m : ℕ) where
  may_both : T (o is p && sharing o) → MayShare (act o t n) (act p u m)
  may_both h = let (a, b) = split (o is p) (sharing o) h in of (passed (same_op o p) a) b
    where
      of : {p : Op} → o ≡ p → T (sharing o) → MayShare (act o t n) (act p u m)
      of e s = subst (λ (q : Op). MayShare (act o t n) (act q u m)) e (may_share s)

  or_else : (a b : Bool) → T (not a || b) → ¬ T (not a) → T b
  or_else true b h d = h
  or_else false b h d = absurd (d tt)

  acts_hold : (q : Premise) → T (holds_of_acts q o t n p u m) → Holds q (act o t n) (act p u m)
  acts_hold two_acts h = an_act (an_act no_events)
  acts_hold actors_differ h = λ x a b. passed (fails (equal t u)) h (sym (actor_is a) ∙ actor_is b)
  acts_hold names_no_actor h = λ x. let (a, b) = split (not (is_of task o && eqb n u)) (not (is_of task p && eqb m t)) h in (not_task x a, not_task x b)
  acts_hold names_no_same h = λ x. not_both task x h
  acts_hold no_semaphore h = λ x. not_both semaphore x h
  acts_hold no_flag h = λ x. not_both flag x h
  acts_hold no_variable h = λ v a b. may_both (or_else (both_name variable o n p m) (o is p && sharing o) h (λ z. not_both variable v z a b))
  acts_hold none_owned h = λ k. let (a, b) = split (not (is_of profile o)) (not (is_of profile p)) h in (not_owned k a, not_owned k b)

-- with a mark there is nobody who acts and nothing that is named
mark_holds : {e f : Event} (x : Bool) → ((t : ℕ) → ActsIn t e → ¬ ActsIn t f) → ((x : Series) (n : ℕ) → Names x n e → ¬ Names x n f) → ((t : ℕ) → Names task t e → ¬ ActsIn t f) → ((t : ℕ) → Names task t f → ¬ ActsIn t e) → (T x → Holds none_owned e f) →
    (q : Premise) → T (holds_of_mark q x) → Holds q e f
mark_holds x a b c d o two_acts h = absurd h
mark_holds x a b c d o actors_differ h = a
mark_holds x a b c d o names_no_actor h = λ t. (c t, d t)
mark_holds x a b c d o names_no_same h = λ t. b task t
mark_holds x a b c d o no_semaphore h = λ x. b semaphore x
mark_holds x a b c d o no_flag h = λ x. b flag x
mark_holds x a b c d o no_variable h = λ v k l. absurd (b variable v k l)
mark_holds x a b c d o none_owned h = o h

test_holds : (q : Premise) (e f : Event) → T (holds_test q e f) → Holds q e f
test_holds q (act o t n) (act p u m) h = acts_hold o t n p u m q h
test_holds q (act o t n) (lost mask) h = mark_holds (not (is_of profile o)) (λ t a b. no_actor b) (λ x n a b. no_name b) (λ t a b. no_actor b) (λ t a b. no_name a) (λ h k. (not_owned k h, no_name)) q h
test_holds q (lost mask) (act p u m) h = mark_holds (not (is_of profile p)) (λ t a b. no_actor a) (λ x n a b. no_name a) (λ t a b. no_name a) (λ t a b. no_actor b) (λ h k. (no_name, not_owned k h)) q h
test_holds q (lost mask) (lost mask') h = mark_holds true (λ t a b. no_actor a) (λ x n a b. no_name a) (λ t a b. no_name a) (λ t a b. no_actor b) (λ h k. (no_name, no_name)) q h

-- Every premise but one

abbrev premises : List Premise
premises = two_acts ∷ actors_differ ∷ names_no_actor ∷ names_no_same ∷ no_semaphore ∷ no_flag ∷ no_variable ∷ none_owned ∷ []

abbrev premise_number : Premise → ℕ
premise_number two_acts = 0
premise_number actors_differ = 1
premise_number names_no_actor = 2
premise_number names_no_same = 3
premise_number no_semaphore = 4
premise_number no_flag = 5
premise_number no_variable = 6
premise_number none_owned = 7

abbrev numbered_premise : ℕ → Premise
numbered_premise k = get_or premises k two_acts

premise_numbered : (q : Premise) → numbered_premise (premise_number q) ≡ q
premise_numbered two_acts = refl
premise_numbered actors_differ = refl
premise_numbered names_no_actor = refl
premise_numbered names_no_same = refl
premise_numbered no_semaphore = refl
premise_numbered no_flag = refl
premise_numbered no_variable = refl
premise_numbered none_owned = refl

same_premise : (p q : Premise) → eqb (premise_number p) (premise_number q) ≡ true → p ≡ q
same_premise p q e = sym (premise_numbered p) ∙ (ap numbered_premise (eqb-true (premise_number p) (premise_number q) e) ∙ premise_numbered q)

abbrev all_of : (Premise → Bool) → List Premise → Bool
all_of h [] = true
all_of h (q ∷ qs) = h q && all_of h qs

all_at : (h : Premise → Bool) (qs : List Premise) → all_of h qs ≡ true → h two_acts ≡ true → (k : ℕ) → h (get_or qs k two_acts) ≡ true
all_at h [] e d k = d
all_at h (q ∷ qs) e d zero = and_elim_left (h q) (all_of h qs) e
all_at h (q ∷ qs) e d (suc k) = all_at h qs (and_elim_right (h q) (all_of h qs) e) d k

-- a test that passes at each premise
each_premise : (h : Premise → Bool) → all_of h premises ≡ true → (q : Premise) → h q ≡ true
each_premise h e q = subst (λ (p : Premise). h p ≡ true) (premise_numbered q) (all_at h premises e (and_elim_left (h two_acts) _ e) (premise_number q))

-- the two meet it, or it is the one that they may fail
abbrev met_or : Premise → Event → Event → Premise → Bool
met_or p e f q = eqb (premise_number q) (premise_number p) || holds_test q e f

others_met_lem : (p : Premise) (e f : Event) → all_of (met_or p e f) premises ≡ true → (q : Premise) → q ≢ p → Holds q e f
others_met_lem p e f h q d = test_holds q e f (of (eqb (premise_number q) (premise_number p)) refl (each_premise (met_or p e f) h q))
  where
    of : (b : Bool) → eqb (premise_number q) (premise_number p) ≡ b → (b || holds_test q e f) ≡ true → T (holds_test q e f)
    of true w h = absurd (d (same_premise q p w))
    of false w h = subst T (sym h) tt

-- Rows

abbrev no_refusal : List Meaning → Bool
no_refusal [] = true
no_refusal (m ∷ ms) = not (is_refusal m) && no_refusal ms

no_refusal_lem : (ms : List Meaning) → no_refusal ms ≡ true → Accepted ms
no_refusal_lem [] e = none_left
no_refusal_lem (m ∷ ms) e = and_accepted (of (is_refusal m) (and_elim_left (not (is_refusal m)) (no_refusal ms) e)) (no_refusal_lem ms (and_elim_right (not (is_refusal m)) (no_refusal ms) e))
  where
    of : (b : Bool) → not b ≡ true → b ≡ false
    of true e = sym e
    of false e = refl

-- a number for what is told, to tell two of them apart
abbrev partner_number : Option ℕ → ℕ
partner_number none = 0
partner_number (some t) = suc t

abbrev told_number : Said → ℕ
told_number (refused n) = 100 + n
told_number taken = 99
told_number (judged v w) = 20 * verdict_place v + partner_number w
told_number (known w) = 60 + partner_number w

abbrev others_met : Related → Bool
others_met x = all_of (met_or x.premise x.one x.other) premises

abbrev row_test : Related → Bool
row_test x = others_met x && (no_refusal (answers_from [] (map event_record (logged x))) && not (eqb (told_number x.was) (told_number x.becomes)))

abbrev all_rows : List Related → Bool
all_rows [] = true
all_rows (x ∷ xs) = row_test x && all_rows xs

row_changes : (x : Related) → row_test x ≡ true → told_at (logged x) x.place ≡ some x.was → told_at (exchanged x) (new_place x) ≡ some x.becomes → Changes x
row_changes x e b a =
    let met = and_elim_left (others_met x) _ e in
    let rest = and_elim_right (others_met x) _ e in
    record {
      others = others_met_lem x.premise x.one x.other met;
      accepted = no_refusal_lem (answers_from [] (map event_record (logged x))) (and_elim_left (no_refusal (answers_from [] (map event_record (logged x)))) _ rest);
      before = b;
      after = a;
      differ = λ q. of (eqb (told_number x.was) (told_number x.becomes)) (and_elim_right (no_refusal (answers_from [] (map event_record (logged x)))) _ rest) (eq-eqb _ _ (ap told_number q));
    }
  where
    of : (b : Bool) → not b ≡ true → ¬ (b ≡ true)
    of true e q = true≢false (sym e)
    of false e q = true≢false (sym q)

rows_change : (xs : List Related) → all_rows xs ≡ true → map (λ (x : Related). told_at (logged x) x.place) xs ≡ map (λ (x : Related). some x.was) xs →
    map (λ (x : Related). told_at (exchanged x) (new_place x)) xs ≡ map (λ (x : Related). some x.becomes) xs → AllChange xs
rows_change [] e b a = tt
rows_change (x ∷ xs) e b a =
    (row_changes x (and_elim_left (row_test x) (all_rows xs) e) (head-eq_of_cons-eq b) (head-eq_of_cons-eq a), rows_change xs (and_elim_right (row_test x) (all_rows xs) e) (tail-eq_of_cons-eq b) (tail-eq_of_cons-eq a))

pub all_change : AllChange related
unfolding turns standing_refusal judge rule rounds round part on_each
all_change = rows_change related refl refl refl

-- the rows, each for its premise
pub each_needed : EachNeeded
each_needed two_acts = (_, refl, all_change.0)
each_needed actors_differ = (_, refl, all_change.1.0)
each_needed names_no_actor = (_, refl, all_change.1.1.0)
each_needed names_no_same = (_, refl, all_change.1.1.1.1.0)
each_needed no_semaphore = (_, refl, all_change.1.1.1.1.1.0)
each_needed no_flag = (_, refl, all_change.1.1.1.1.1.1.1.0)
each_needed no_variable = (_, refl, all_change.1.1.1.1.1.1.1.1.0)
each_needed none_owned = (_, refl, all_change.1.1.1.1.1.1.1.1.1.1.1.1.1.1.1.1.1.0)

-- The pairs

abbrev all_met : List Pair → Bool
all_met [] = true
all_met (x ∷ xs) = all_of (λ q. holds_test q x.one x.other) premises && all_met xs

pairs_met : (xs : List Pair) → all_met xs ≡ true → AllUnrelated xs
pairs_met [] e = tt
pairs_met (x ∷ xs) e =
    let met = and_elim_left (all_of (λ q. holds_test q x.one x.other) premises) (all_met xs) e in (
      record { holds = λ q. test_holds q x.one x.other (subst T (sym (each_premise (λ q. holds_test q x.one x.other) met q)) tt) },
      pairs_met xs (and_elim_right (all_of (λ q. holds_test q x.one x.other) premises) (all_met xs) e),
    )

pub pairs_unrelated : AllUnrelated unrelated_pairs
pairs_unrelated = pairs_met unrelated_pairs refl

-- with a miss
pub pairs_missed : AllMissed missed_pairs
pairs_missed = (
  record { misses = second_misses; others = others_met_lem no_semaphore (act give 1 3) (act miss 2 3) refl },
  (record { misses = first_misses; others = others_met_lem no_semaphore (act miss 2 4) (act take 1 4) refl }, tt),
)

-- Under the profile

either_order : (x : Pair) → no_refusal (answers_from [] (map event_record (holding ++ (x.one ∷ (x.other ∷ []))))) ≡ true →
    no_refusal (answers_from [] (map event_record (holding ++ (x.other ∷ (x.one ∷ []))))) ≡ true → EitherOrder x
either_order x a b =
    record {
      logged = no_refusal_lem (answers_from [] (map event_record (holding ++ (x.one ∷ (x.other ∷ []))))) a;
      swapped = no_refusal_lem (answers_from [] (map event_record (holding ++ (x.other ∷ (x.one ∷ []))))) b;
    }

pub held_pairs : HeldPairs
unfolding turns standing_refusal judge rule rounds round part on_each
held_pairs =
    record {
      two_takes = either_order _ refl refl;
      give_take = either_order _ refl refl;
      give_miss = either_order _ refl refl;
      miss_take = either_order _ refl refl;
    }

-- Record numbers

pub numbers_shift : NumbersShift
unfolding turns standing_refusal judge rule rounds round part on_each
numbers_shift = record { before = refl; after = refl }
