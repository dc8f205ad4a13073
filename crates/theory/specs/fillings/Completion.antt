-- Loss marks and what may be filled in for them: completions, and the fullest of them ("Verdicts", demand 3).
use Rattle.std.specs.Prelude.{ℕ, zero, suc, ◌+◌, ◌-◌, ◌/◌, ◌%◌, ◌^◌, ◌<◌, ◌≡◌, ◌↔◌, ◌⊎◌, Bool, true, false, ◌&&◌, List, [], ◌∷◌, ◌++◌, T, ltb, eqb, length}
use Rattle.theory.specs.order.Limits.{tasks}
use Rattle.theory.specs.order.Recording.{Op, take, give, look, set, miss, Event, act, lost, Every, series, size_of, losable}

-- the bit of weight 2 to the power t is in the mask
abbrev pub bit : ℕ → ℕ → Bool
bit mask t = eqb (mask / 2 ^ t % 2) 1

-- the mask names task t: t is a task, and its bit is in the mask
abbrev pub names : ℕ → ℕ → Bool
names mask t = ltb t tasks && bit mask t

-- the same as a type
pub record Named (mask t : ℕ) : Type 0 where
  pub named : T (names mask t)

-- a record that a completion may put for a mark: by a task that the mark names, on a semaphore or flag 0 to 31
pub data Filler (mask : ℕ) : Event → Type 0 where
  filler : {o : Op} {t n : ℕ} → T (losable o) → Named mask t → n < size_of (series o) → Filler mask (act o t n)

-- "A completion puts .. any finite list of takes, gives, looks and sets", and "may contain misses as well"; nothing else: "A completion never
-- contains a fresh"
abbrev pub CanBeLost : Type 0
CanBeLost = (o : Op) → T (losable o) ↔ ((o ≡ take) ⊎ ((o ≡ give) ⊎ ((o ≡ look) ⊎ ((o ≡ set) ⊎ (o ≡ miss)))))

-- `Filled Fills es fs`: fs is es with each mark replaced by a list that `Fills` allows for its mask, and nothing else altered
pub data Filled (Fills : ℕ → List Event → Type 0) : List Event → List Event → Type 0 where
  done : Filled Fills [] []
  keep : {o : Op} {t n : ℕ} {es fs : List Event} → Filled Fills es fs → Filled Fills (act o t n ∷ es) (act o t n ∷ fs)
  fill : {mask : ℕ} {gs es fs : List Event} → Fills mask gs → Filled Fills es fs → Filled Fills (lost mask ∷ es) (gs ++ fs)

-- "completion": for each mark any finite list of fillers, in the mark's place
abbrev pub Completion : List Event → List Event → Type 0
Completion = Filled (λ mask. Every (Filler mask))

-- the place in the filled list of the record that arrived at place i
abbrev pub place : {Fills : ℕ → List Event → Type 0} {es fs : List Event} → Filled Fills es fs → ℕ → ℕ
place done i = i
place (keep c) zero = zero
place (keep c) (suc i) = suc (place c i)
place (fill {gs = gs} x c) zero = zero
place (fill {gs = gs} x c) (suc i) = length gs + place c i

-- each mark filled with the list that g has for its mask
abbrev pub fill_with : (ℕ → List Event) → List Event → List Event
fill_with g [] = []
fill_with g (act o t n ∷ es) = act o t n ∷ fill_with g es
fill_with g (lost mask ∷ es) = g mask ++ fill_with g es

-- the recording as it arrived: nothing for any mark
abbrev pub nothing : ℕ → List Event
nothing mask = []

-- the lists that f has for the numbers below n, one after the other, lowest first
abbrev pub in_turn : ℕ → (ℕ → List Event) → List Event
in_turn zero f = []
in_turn (suc n) f = f zero ++ in_turn n (λ k. f (suc k))

-- task t does the op on each number of the op's series
unfoldable pub on_each : Op → ℕ → List Event
on_each o t = in_turn (size_of (series o)) (λ n. act o t n ∷ [])

-- one task's part of a round: it takes every semaphore and looks at every flag, then gives and sets them all
unfoldable pub part : ℕ → List Event
part t = (on_each take t ++ on_each look t) ++ (on_each give t ++ on_each set t)

-- the part of a task that is named, and nothing for one that is not
abbrev pub part_if : Bool → ℕ → List Event
part_if true t = part t
part_if false t = []

-- a round: the named tasks, one after the other, lowest first
unfoldable pub round : ℕ → List Event
round mask = in_turn tasks (λ t. part_if (names mask t) t)

-- "the fullest" filling of a mark: the whole round, twice
unfoldable pub rounds : ℕ → List Event
rounds mask = round mask ++ round mask

-- "the fullest" completion of a recording
abbrev pub fullest : List Event → List Event
fullest = fill_with rounds

-- Fillings that are computed: of the tasks that a mark names, those whose lost records are filled in, as a mask
abbrev pub Filling : Type 0
Filling = ℕ → ℕ

-- nobody's: the recording as it arrived
abbrev pub arrived : Filling
arrived mask = 0

-- everybody's: the fullest
abbrev pub full : Filling
full mask = mask

-- a mark is filled with the whole round of those tasks, twice
abbrev pub filling : Filling → ℕ → List Event
filling w mask = rounds (w mask)

-- whether it fills in anything at all: of a mark that names every task
abbrev pub fills : Filling → Bool
fills w = ltb 0 (w (2 ^ tasks - 1))
