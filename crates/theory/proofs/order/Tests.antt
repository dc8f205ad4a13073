-- The tests of specs/verdicts/Search.antt tell of what specs/order/Path.antt means: steps, paths and conflicts. Assumes nothing.
use mathlib.Core.Path.{◌≡◌, refl}
use mathlib.Core.Bool.{Bool, true, false, not}
use mathlib.Core.Logic.{◌⊎◌, inl, inr, ◌≢◌}
use mathlib.Core.List.{List, [], ◌∷◌, ◌++◌}
use Prim.Native.Nat.{ℕ}
use lib.Dec.{T}
use Rattle.theory.specs.order.Recording.{Op, take, give, look, set, start, join, fresh, Event, act, lost, Every, no_more, and_more, ActsIn, acts}
use Rattle.theory.specs.order.Path.{Step, same_task, gives_takes, sets_looks, starts, joins, clashes, Conflict, conflict, Empties, empties as emptying}
use Rattle.theory.specs.verdicts.Search.{steps, any, reaches, conflicts, empties, acts_in, again}
use Rattle.theory.proofs.basics.Reflects.{Reflects, right, wrong, by_test, both, either, fails, same_as, equal}
use Rattle.theory.proofs.order.Ops.{same_op}
use Rattle.theory.proofs.order.Leads.{Leads, last, over, via}

-- Some event of a list

pub data Some (P : Event → Type 0) : List Event → Type 0 where
  this : {e : Event} {es : List Event} → P e → Some P (e ∷ es)
  further : {e : Event} {es : List Event} → Some P es → Some P (e ∷ es)

pub some_map : {P Q : Event → Type 0} {es : List Event} → ((e : Event) → P e → Q e) → Some P es → Some Q es
some_map h (this p) = this (h _ p)
some_map h (further s) = further (some_map h s)

-- a list with one event more

pub some_snoc : {P : Event → Type 0} (after : List Event) {x : Event} → Some P (after ++ (x ∷ [])) → Some P after ⊎ P x
some_snoc [] (this p) = inr p
some_snoc [] (further q) = elim q [ ]
some_snoc (e ∷ after) (this p) = inl (this p)
some_snoc (e ∷ after) (further q) = later (some_snoc after q)
  where
    later : {P : Event → Type 0} {e x : Event} {after : List Event} → Some P after ⊎ P x → Some P (e ∷ after) ⊎ P x
    later (inl q) = inl (further q)
    later (inr p) = inr p

pub snoc_some : {P : Event → Type 0} {after : List Event} (x : Event) → Some P after → Some P (after ++ (x ∷ []))
snoc_some x (this p) = this p
snoc_some x (further q) = further (snoc_some x q)

pub snoc_last : {P : Event → Type 0} (after : List Event) (x : Event) → P x → Some P (after ++ (x ∷ []))
snoc_last [] x p = this p
snoc_last (e ∷ after) x p = further (snoc_last after x p)

none_of : {P : Event → Type 0} → ¬ Some P []
none_of s = elim s [ ]

neither_of : {P : Event → Type 0} {e : Event} {es : List Event} → ¬ P e → ¬ Some P es → ¬ Some P (e ∷ es)
neither_of n f (this p) = n p
neither_of n f (further s) = f s

pub some_test : {P : Event → Type 0} {b : Event → Bool} → ((e : Event) → Reflects (P e) (b e)) → (es : List Event) → Reflects (Some P es) (any b es)
some_test r [] = wrong none_of
some_test r (e ∷ es) = at_head (r e) (some_test r es)
  where
    at_head : {P : Event → Type 0} {e : Event} {es : List Event} {a c : Bool} → Reflects (P e) a → Reflects (Some P es) c →
        Reflects (Some P (e ∷ es)) (elim a [ true ↦ true | false ↦ c ])
    at_head (right p) s = right (this p)
    at_head (wrong n) (right s) = right (further s)
    at_head (wrong n) (wrong f) = wrong (neither_of n f)

-- Every event of a list

pub every_map : {P Q : Event → Type 0} {es : List Event} → ((e : Event) → P e → Q e) → Every P es → Every Q es
every_map h no_more = no_more
every_map h (and_more p q) = and_more (h _ p) (every_map h q)

pub every_snoc : {P : Event → Type 0} (after : List Event) {x : Event} → Every P (after ++ (x ∷ [])) → Every P after × P x
every_snoc [] (and_more p q) = (no_more, p)
every_snoc (e ∷ after) (and_more p q) = let r = every_snoc after q in (and_more p r.0, r.1)

pub snoc_every : {P : Event → Type 0} {after : List Event} (x : Event) → Every P after → P x → Every P (after ++ (x ∷ []))
snoc_every x no_more p = and_more p no_more
snoc_every x (and_more q r) p = and_more q (snoc_every x r p)

-- a list of which no event is as P says
pub none_every : {P : Event → Type 0} (es : List Event) → ¬ Some P es → Every (λ e. ¬ P e) es
none_every [] n = no_more
none_every (e ∷ es) n = and_more (λ p. n (this p)) (none_every es (λ s. n (further s)))

pub every_none : {P : Event → Type 0} {es : List Event} → Every (λ e. ¬ P e) es → ¬ Some P es
every_none no_more s = elim s [ ]
every_none (and_more n r) (this p) = n p
every_none (and_more n r) (further s) = every_none r s

pub none_test : {P : Event → Type 0} {b : Event → Bool} → ((e : Event) → Reflects (P e) (b e)) → (es : List Event) → Reflects (Every (λ e. ¬ P e) es) (not (any b es))
none_test r es = same_as (none_every es) every_none (fails (some_test r es))

-- Steps

-- an event is an act, and no mark
abbrev is_act : Event → Bool
is_act (act o t n) = true
is_act (lost mask) = false

-- the five lines of "Order" as cases, in the order of the test
abbrev Cases : Op → ℕ → ℕ → Op → ℕ → ℕ → Type 0
Cases o t n p u m =
    ((((t ≡ u)
    ⊎ (((o ≡ give) × (p ≡ take)) × (n ≡ m)))
    ⊎ (((o ≡ set) × (p ≡ look)) × (n ≡ m)))
    ⊎ ((o ≡ start) × (n ≡ u)))
    ⊎ ((p ≡ join) × (t ≡ m))

cases_step : (o p : Op) (t u n m : ℕ) → Cases o t n p u m → Step (act o t n) (act p u m)
cases_step o p t u n m (inl (inl (inl (inl e)))) = rw e same_task
cases_step o p t u n m (inl (inl (inl (inr e)))) = rw (e.0.0, e.0.1, e.1) gives_takes
cases_step o p t u n m (inl (inl (inr e))) = rw (e.0.0, e.0.1, e.1) sets_looks
cases_step o p t u n m (inl (inr e)) = rw (e.0, e.1) starts
cases_step o p t u n m (inr e) = rw (e.0, e.1) joins

step_cases : {o p : Op} {t u n m : ℕ} → Step (act o t n) (act p u m) → Cases o t n p u m
step_cases same_task = inl (inl (inl (inl refl)))
step_cases gives_takes = inl (inl (inl (inr ((refl, refl), refl))))
step_cases sets_looks = inl (inl (inr ((refl, refl), refl)))
step_cases starts = inl (inr (refl, refl))
step_cases joins = inr (refl, refl)

-- a step comes to an act
comes_to_act : {e f : Event} → Step e f → T (is_act f)
comes_to_act same_task = tt
comes_to_act gives_takes = tt
comes_to_act sets_looks = tt
comes_to_act starts = tt
comes_to_act joins = tt

pub step_test : (e f : Event) → Reflects (Step e f) (steps e f)
step_test (act o t n) (act p u m) =
    same_as (cases_step o p t u n m) step_cases
    (either
    (either
    (either (either (equal t u) (both (both (same_op o give) (same_op p take)) (equal n m))) (both (both (same_op o set) (same_op p look)) (equal n m)))
    (both (same_op o start) (equal n u)))
    (both (same_op p join) (equal t m)))
step_test (act o t n) (lost mask) = wrong (λ s. comes_to_act s)
step_test (lost mask) (act p u m) = wrong (λ s. elim s [ ])
step_test (lost mask) (lost mask') = wrong (λ s. elim s [ ])

-- Paths

reach_on : {x f : Event} {mid es : List Event} → Some (λ e. Step e x) es → Some (λ e. Leads e mid f) (x ∷ es) → Some (λ e. Leads e (x ∷ mid) f) es
reach_on s (this p) = some_map (λ e step. via step p) s
reach_on s (further q) = some_map (λ e p. over p) q

reach_back : {x f : Event} {mid es : List Event} → Some (λ e. Leads e (x ∷ mid) f) es → Some (λ e. Leads e mid f) (x ∷ es)
reach_back (this (over p)) = further (this p)
reach_back (this (via s p)) = this p
reach_back (further q) = aside (reach_back q)
  where
    aside : {P : Event → Type 0} {x e : Event} {es : List Event} → Some P (x ∷ es) → Some P (x ∷ (e ∷ es))
    aside (this p) = this p
    aside (further s) = further (further s)

reach_past : {x f : Event} {mid es : List Event} → ¬ Some (λ e. Step e x) es → Some (λ e. Leads e (x ∷ mid) f) es → Some (λ e. Leads e mid f) es
reach_past n (this (over p)) = this p
reach_past n (this (via s p)) = absurd (n (this s))
reach_past n (further q) = further (reach_past (λ s. n (further s)) q)

last_step : {e f : Event} → Leads e [] f → Step e f
last_step (last s) = s

pub reach_test : (reached mid : List Event) (f : Event) → Reflects (Some (λ e. Leads e mid f) reached) (reaches reached mid f)
reach_test reached [] f = same_as (some_map (λ e. last)) (some_map (λ e. last_step)) (some_test (λ e. step_test e f) reached)
reach_test reached (x ∷ mid) f = at_event (some_test (λ e. step_test e x) reached) (reach_test (x ∷ reached) mid f) (reach_test reached mid f)
  where
    at_event : {x f : Event} {mid es : List Event} {a b c : Bool} → Reflects (Some (λ e. Step e x) es) a →
        Reflects (Some (λ e. Leads e mid f) (x ∷ es)) b → Reflects (Some (λ e. Leads e mid f) es) c →
        Reflects (Some (λ e. Leads e (x ∷ mid) f) es) (elim a [ true ↦ b | false ↦ c ])
    at_event (right s) r q = same_as (reach_on s) reach_back r
    at_event (wrong n) r q = same_as (some_map (λ e. over)) (reach_past n) q

pub lead_test : (e : Event) (mid : List Event) (f : Event) → Reflects (Leads e mid f) (reaches (e ∷ []) mid f)
lead_test e mid f = same_as only this (reach_test (e ∷ []) mid f)
  where
    only : {P : Event → Type 0} {e : Event} → Some P (e ∷ []) → P e
    only (this p) = p
    only (further s) = absurd (none_of s)

-- Conflicts

pub conflict_test : (e f : Event) → Reflects (Conflict e f) (conflicts e f)
conflict_test (act o t v) (act p u w) =
    same_as (λ c. rw (← c.1) (conflict c.0.0 c.0.1)) parts
    (both (both (fails (equal t u)) (by_test (clashes o p))) (equal v w))
  where
    parts : {o p : Op} {t u v w : ℕ} → Conflict (act o t v) (act p u w) → ((t ≢ u) × T (clashes o p)) × (v ≡ w)
    parts (conflict n c) = ((n, c), refl)
conflict_test (act o t n) (lost mask) = wrong (λ s. elim s [ ])
conflict_test (lost mask) (act p u m) = wrong (λ s. elim s [ ])
conflict_test (lost mask) (lost mask') = wrong (λ s. elim s [ ])

-- and so does what empties a history
empties_for_act : {e f : Event} → Empties e f → T (is_act f)
empties_for_act emptying = tt

pub empties_test : (e f : Event) → Reflects (Empties e f) (empties e f)
empties_test (act o t v) (act p u w) = same_as (λ c. rw (c.0, c.1) emptying) parts (both (same_op o fresh) (equal v w))
  where
    parts : {o p : Op} {t u v w : ℕ} → Empties (act o t v) (act p u w) → (o ≡ fresh) × (v ≡ w)
    parts emptying = (refl, refl)
empties_test (act o t n) (lost mask) = wrong (λ c. empties_for_act c)
empties_test (lost mask) (act p u m) = wrong (λ s. elim s [ ])
empties_test (lost mask) (lost mask') = wrong (λ s. elim s [ ])

pub acts_test : (t : ℕ) (e : Event) → Reflects (ActsIn t e) (acts_in t e)
acts_test t (act o u n) = same_as (λ e. rw (← e) acts) acting (equal t u)
  where
    acting : {t u n : ℕ} {o : Op} → ActsIn t (act o u n) → t ≡ u
    acting acts = refl
acts_test t (lost mask) = wrong (λ s. elim s [ ])

-- an access of task t among the events conflicts with f
abbrev pub Again : ℕ → Event → List Event → Type 0
Again t f = Some (λ e. ActsIn t e × Conflict e f)

pub again_test : (t : ℕ) (f : Event) (es : List Event) → Reflects (Again t f es) (again t f es)
again_test t f = some_test (λ e. both (acts_test t e) (conflict_test e f))
