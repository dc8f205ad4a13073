-- The fullest filling has the most paths. What any filling of a mark does to order is `Mix`: whatever reaches a node that a filler
-- acquires goes on to every node that a filler releases to, and nothing else moves. Two rounds do all of that. Assumes nothing.
use mathlib.Core.Path.{sym, subst}
use mathlib.Core.Bool.{Bool, true, false}
use mathlib.Core.List.{List, [], ◌∷◌, ◌++◌}
use Prim.Native.Nat.{ℕ, zero, suc, ◌<◌, zero-le, suc-le-suc}
use lib.Dec.{T, lit<}
use Rattle.theory.specs.order.Limits.{tasks}
use Rattle.theory.specs.order.Recording.{Every, no_more, and_more, Op, take, give, look, set, Event, act, series, size_of, losable}
use Rattle.theory.specs.fillings.Completion.{bit, names, Named, Filler, filler, Filled, done, keep, fill, in_turn, on_each, part, part_if, round, rounds, nothing, fill_with, Filling, filling}
use Rattle.theory.proofs.basics.Reflects.{by_test, both, at_most, passed, is_true}
use Rattle.theory.proofs.order.Leads.{Leads}
use Rattle.theory.proofs.order.Carry.{Node, due, semaphore, Acquires, own, by_take, by_look, by_join, Releases, own_next, own_acted, by_give, by_set, by_start, Carry, stay, pass, move, carry_skip, carry_append, carry_split, carry_one, carry_in_turn, leads_carried, carried_leads}

-- Definition

-- some filler of the mark acquires the node, or releases to it
abbrev pub FillerAcquires : ℕ → Node → Type 0
FillerAcquires mask n = (g : Event) × Filler mask g × Acquires n g

abbrev pub FillerReleases : ℕ → Node → Type 0
FillerReleases mask n = (g : Event) × Filler mask g × Releases g n

pub data Mix (mask : ℕ) : Node → Node → Type 0 where
  same : {n : Node} → Mix mask n n
  mixed : {n m : Node} → FillerAcquires mask n → FillerReleases mask m → Mix mask n m

-- Any filling stays inside `Mix`

pub carry_mix : {mask : ℕ} {gs : List Event} {n m : Node} → Every (Filler mask) gs → Carry n gs m → Mix mask n m
carry_mix no_more stay = same
carry_mix (and_more g gs) (pass c) = carry_mix gs c
carry_mix (and_more g gs) (move h t c) = onward g h t (carry_mix gs c)
  where
    onward : {mask : ℕ} {x : Event} {n p m : Node} → Filler mask x → Acquires n x → Releases x p → Mix mask p m → Mix mask n m
    onward g h t same = mixed (_, g, h) (_, g, t)
    onward g h t (mixed _ released) = mixed (_, g, h) released

-- Two rounds do all of `Mix`

-- an act on one number of the series is among the acts on each
carry_each : {a b : Node} (o : Op) (t n : ℕ) → n < size_of (series o) → Acquires a (act o t n) → Releases (act o t n) b → Carry a (on_each o t) b
unfolding on_each
carry_each o t n h acquires releases = carry_in_turn (size_of (series o)) (λ k. act o t k ∷ []) n h (carry_one acquires releases)

-- the first half of a task's part brings to its next act what any filler of that task acquires
acquires_part : {t n : ℕ} {o : Op} {m : Node} → T (losable o) → n < size_of (series o) → Acquires m (act o t n) → Carry m (on_each take t ++ on_each look t) (due t)
acquires_part {t} l h own = carry_skip (on_each take t ++ on_each look t)
acquires_part {t} {n} l h by_take = carry_append (carry_each take t n h by_take own_next) (carry_skip (on_each look t))
acquires_part {t} {n} l h by_look = carry_append (carry_skip (on_each take t)) (carry_each look t n h by_look own_next)
acquires_part l h by_join = absurd l

-- the second half brings to whatever any filler of that task releases to what its next act acquires
releases_part : {t n : ℕ} {o : Op} {m : Node} → T (losable o) → n < size_of (series o) → Releases (act o t n) m → Carry (due t) (on_each give t ++ on_each set t) m
releases_part {t} l h own_next = carry_skip (on_each give t ++ on_each set t)
releases_part {t} l h own_acted = carry_append (carry_each give t 0 (lit< tt) own own_acted) (carry_skip (on_each set t))
releases_part {t} {n} l h by_give = carry_append (carry_each give t n h own by_give) (carry_skip (on_each set t))
releases_part {t} {n} l h by_set = carry_append (carry_skip (on_each give t)) (carry_each set t n h own by_set)
releases_part l h by_start = absurd l

-- semaphore 0 is where the first round leaves order for the second
hub : Node
hub = semaphore 0

pub named_task : {mask t : ℕ} → Named mask t → t < tasks
named_task {mask} {t} d = (passed (both (at_most (suc t) tasks) (by_test (bit mask t))) d.named).0

-- a named task's part is in the round
carry_round : {mask t : ℕ} {n m : Node} → Named mask t → Carry n (part t) m → Carry n (round mask) m
unfolding round
carry_round {mask} {t} {n} {m} named c =
    carry_in_turn tasks (λ u. part_if (names mask u) u) t (named_task named)
    (subst (λ (b : Bool). Carry n (part_if b t) m) (sym (is_true (by_test (names mask t)) named.named)) c)

acquired_round : {mask : ℕ} {n : Node} → FillerAcquires mask n → Carry n (round mask) hub
unfolding hub part
acquired_round (_, filler l named h, acquires) =
    carry_round named (carry_append (acquires_part l h acquires) (releases_part {o = give} tt (lit< tt) by_give))

released_round : {mask : ℕ} {n : Node} → FillerReleases mask n → Carry hub (round mask) n
unfolding hub part
released_round (_, filler l named h, releases) =
    carry_round named (carry_append (acquires_part {o = take} tt (lit< tt) by_take) (releases_part l h releases))

pub mix_rounds : {mask : ℕ} {n m : Node} → Mix mask n m → Carry n (rounds mask) m
unfolding rounds
mix_rounds {mask} same = carry_skip (rounds mask)
mix_rounds (mixed acquired released) = carry_append (acquired_round acquired) (released_round released)

-- A filling has every path of whatever its tasks may put for the marks; so the fullest has every path of every completion

pub carry_most : (w : Filling) {mid mid' : List Event} {n m : Node} → Filled (λ mask. Every (Filler (w mask))) mid mid' → Carry n mid' m →
    Carry n (fill_with (filling w) mid) m
carry_most w done c = c
carry_most w (keep d) (pass c) = pass (carry_most w d c)
carry_most w (keep d) (move h t c) = move h t (carry_most w d c)
carry_most w (fill {gs = gs} g d) c =
    let (p, inside, rest) = carry_split gs c in
    carry_append (mix_rounds (carry_mix g inside)) (carry_most w d rest)

pub leads_most : (w : Filling) {mid mid' : List Event} {e f : Event} → Filled (λ mask. Every (Filler (w mask))) mid mid' → Leads e mid' f →
    Leads e (fill_with (filling w) mid) f
leads_most w d p = let (n, m, t, c, h) = leads_carried p in carried_leads t (carry_most w d c) h

-- The fullest is a completion, and so is the recording as it arrived

every_append : {P : Event → Type 0} {xs ys : List Event} → Every P xs → Every P ys → Every P (xs ++ ys)
every_append no_more q = q
every_append (and_more p ps) q = and_more p (every_append ps q)

every_in_turn : {P : Event → Type 0} (n : ℕ) (f : ℕ → List Event) → ((k : ℕ) → k < n → Every P (f k)) → Every P (in_turn n f)
every_in_turn zero f all = no_more
every_in_turn (suc n) f all = every_append (all zero (suc-le-suc zero-le)) (every_in_turn n (λ k. f (suc k)) (λ k h. all (suc k) (suc-le-suc h)))

filler_each : {mask t : ℕ} (o : Op) → Named mask t → T (losable o) → Every (Filler mask) (on_each o t)
unfolding on_each
filler_each {t = t} o named l = every_in_turn (size_of (series o)) (λ n. act o t n ∷ []) (λ n h. and_more (filler l named h) no_more)

filler_part : {mask t : ℕ} → Named mask t → Every (Filler mask) (part t)
unfolding part
filler_part named =
    every_append (every_append (filler_each take named tt) (filler_each look named tt))
    (every_append (filler_each give named tt) (filler_each set named tt))

filler_round : (mask : ℕ) → Every (Filler mask) (round mask)
unfolding round
filler_round mask = every_in_turn tasks (λ t. part_if (names mask t) t) (λ t h. of_task t (names mask t) (λ n. record { named = n }))
  where
    of_task : (t : ℕ) (b : Bool) → (T b → Named mask t) → Every (Filler mask) (part_if b t)
    of_task t true n = filler_part (n tt)
    of_task t false n = no_more

pub filler_rounds : (mask : ℕ) → Every (Filler mask) (rounds mask)
unfolding rounds
filler_rounds mask = every_append (filler_round mask) (filler_round mask)

pub filler_nothing : (mask : ℕ) → Every (Filler mask) (nothing mask)
filler_nothing mask = no_more
