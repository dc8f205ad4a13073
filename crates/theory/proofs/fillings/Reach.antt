-- The laws by which clocks and sets are reckoned: to which nodes order from an event has come, after a list of events in any
-- filling, and how one more act or mark at the end of the list moves it on. Assumes nothing.
use mathlib.Core.Logic.{◌↔◌, ◌⊎◌, inl, inr}
use mathlib.Core.Path.{◌≡◌, refl, sym, ap, subst, ◌∙◌}
use mathlib.Core.List.{List, [], ◌∷◌, ◌++◌, append_assoc}
use mathlib.Core.Bool.{false}
use Prim.Native.Nat.{ℕ, suc, ◌<◌}
use lib.Dec.{T, lit<}
use Rattle.theory.specs.order.Limits.{tasks, semaphores, flags}
use Rattle.theory.specs.basics.Turns.{turns, any_below}
use Rattle.theory.specs.order.Recording.{take, give, look, set, Event, act, lost}
use Rattle.theory.specs.fillings.Completion.{bit, Named, filler, fill_with, nothing, round, rounds, Filling, arrived, filling}
use Rattle.theory.proofs.basics.Reflects.{by_test, both, at_most, passed}
use Rattle.theory.proofs.acceptance.Rows.{none_below}
use Rattle.theory.proofs.order.Leads.{Leads}
use Rattle.theory.proofs.order.Carry.{Node, due, acted, semaphore, flag, Acquires, own, by_take, by_look, by_join, Releases, own_next, own_acted, by_give, by_set, by_start, Carry, stay, pass, move, carry_skip, carry_append, carry_split, acted_next, carry_acted, leads_carried, carried_leads}
use Rattle.theory.proofs.fillings.Fullest.{FillerAcquires, FillerReleases, Mix, same, mixed, carry_mix, mix_rounds, filler_rounds}

-- Definition

-- order goes over one event from the one node to the other
abbrev pub Flow : Filling → Event → Node → Node → Type 0
Flow w (act o t n) p m = Acquires p (act o t n) × Releases (act o t n) m
Flow w (lost mask) p m = FillerAcquires (w mask) p × FillerReleases (w mask) m

-- order from e has come to node m after the events
pub record Reach (w : Filling) (e : Event) (xs : List Event) (m : Node) : Type 0 where
  pub n : Node
  pub released : Releases e n
  pub carried : Carry n (fill_with (filling w) xs) m

-- Along a list

pub fill_append : (g : ℕ → List Event) (xs ys : List Event) → fill_with g (xs ++ ys) ≡ fill_with g xs ++ fill_with g ys
fill_append g [] ys = refl
fill_append g (act o t n ∷ xs) ys = ap (λ (l : List Event). act o t n ∷ l) (fill_append g xs ys)
fill_append g (lost mask ∷ xs) ys = ap (λ (l : List Event). g mask ++ l) (fill_append g xs ys) ∙ sym (append_assoc (g mask) (fill_with g xs) (fill_with g ys))

-- over one event order stays or flows
carry_flow : (w : Filling) (x : Event) {p m : Node} → Carry p (fill_with (filling w) (x ∷ [])) m → (p ≡ m) ⊎ Flow w x p m
carry_flow w (act o t n) c = of_act c
  where
    of_act : {x : Event} {p m : Node} → Carry p (x ∷ []) m → (p ≡ m) ⊎ (Acquires p x × Releases x m)
    of_act (pass stay) = inl refl
    of_act (move h t stay) = inr (h, t)
carry_flow w (lost mask) c =
    let (q, inside, rest) = carry_split (rounds (w mask)) c in
    of_mark (carry_mix (filler_rounds (w mask)) inside) rest
  where
    of_mark : {p q m : Node} → Mix (w mask) p q → Carry q [] m → (p ≡ m) ⊎ (FillerAcquires (w mask) p × FillerReleases (w mask) m)
    of_mark same stay = inl refl
    of_mark (mixed h t) stay = inr (h, t)

flow_carry : (w : Filling) (x : Event) {p m : Node} → (p ≡ m) ⊎ Flow w x p m → Carry p (fill_with (filling w) (x ∷ [])) m
flow_carry w (act o t n) {p} (inl e) = subst (Carry p (act o t n ∷ [])) e (pass stay)
flow_carry w (act o t n) (inr (h, t')) = move h t' stay
flow_carry w (lost mask) {p} (inl e) = subst (Carry p (rounds (w mask) ++ [])) e (carry_append (mix_rounds same) stay)
flow_carry w (lost mask) (inr (h, t)) = carry_append (mix_rounds (mixed h t)) stay

module _ {w : Filling} {e : Event} where
  pub reach_start : {m : Node} → Reach w e [] m ↔ Releases e m
  reach_start {m} = (λ r. at_start r.released r.carried, λ t. record { n = m; released = t; carried = stay })
    where
      at_start : {n : Node} → Releases e n → Carry n [] m → Releases e m
      at_start t stay = t

  -- one more act or mark
  pub reach_next : {m : Node} (xs : List Event) (x : Event) → Reach w e (xs ++ (x ∷ [])) m ↔ (Reach w e xs m ⊎ ((p : Node) × Reach w e xs p × Flow w x p m))
  reach_next {m} xs x = (to, from)
    where
      to : Reach w e (xs ++ (x ∷ [])) m → Reach w e xs m ⊎ ((p : Node) × Reach w e xs p × Flow w x p m)
      to r =
          let (p, c, d) = carry_split (fill_with (filling w) xs) (subst (λ (l : List Event). Carry r.n l m) (fill_append (filling w) xs (x ∷ [])) r.carried) in
          onward p c (carry_flow w x d)
        where
          onward : (p : Node) → Carry r.n (fill_with (filling w) xs) p → (p ≡ m) ⊎ Flow w x p m → Reach w e xs m ⊎ ((q : Node) × Reach w e xs q × Flow w x q m)
          onward p c (inl q) = inl (record { n = r.n; released = r.released; carried = subst (Carry r.n (fill_with (filling w) xs)) q c })
          onward p c (inr f) = inr (p, record { n = r.n; released = r.released; carried = c }, f)

      step : {p : Node} → Reach w e xs p → (p ≡ m) ⊎ Flow w x p m → Reach w e (xs ++ (x ∷ [])) m
      step r f =
          record {
            n = r.n;
            released = r.released;
            carried = subst (λ (l : List Event). Carry r.n l m) (sym (fill_append (filling w) xs (x ∷ []))) (carry_append r.carried (flow_carry w x f));
          }

      from : Reach w e xs m ⊎ ((p : Node) × Reach w e xs p × Flow w x p m) → Reach w e (xs ++ (x ∷ [])) m
      from (inl r) = step r (inl refl)
      from (inr (p, r, f)) = step r (inr f)

  -- where it has come to a task's having acted, it has come to the task's next act
  pub reach_acted : {t : ℕ} {xs : List Event} → Reach w e xs (acted t) → Reach w e xs (due t)
  reach_acted {t} {xs} r = cases (carry_acted r.carried)
    where
      cases : (r.n ≡ acted t) ⊎ Carry r.n (fill_with (filling w) xs) (due t) → Reach w e xs (due t)
      cases (inl q) = record { n = due t; released = acted_next (subst (Releases e) q r.released); carried = carry_skip _ }
      cases (inr c) = record { n = r.n; released = r.released; carried = c }

  -- a path is a node that order has come to and that the later event acquires
  pub leads_reach : {f : Event} {xs : List Event} → Leads e (fill_with (filling w) xs) f ↔ ((m : Node) × Reach w e xs m × Acquires m f)
  leads_reach = (λ l. let (n, m, t, c, h) = leads_carried l in (m, record { n = n; released = t; carried = c }, h), λ r. carried_leads r.1.released r.1.carried r.2)

-- What a mark acquires and releases to, by its mask

-- who acquires or releases to anything is named
pub acquired_some : {mask : ℕ} {n : Node} → FillerAcquires mask n → (t : ℕ) × Named mask t
acquired_some (_, filler l d h, _) = (_, d)

-- the mask 0 names nobody: tried out
zero_tried : any_below tasks (bit 0) ≡ false
unfolding turns
zero_tried = refl

pub nobody_named : {t : ℕ} → ¬ Named 0 t
nobody_named {t} d =
    let (h, b) = passed (both (at_most (suc t) tasks) (by_test (bit 0 t))) d.named in
    subst T (none_below tasks (bit 0) zero_tried t h) b

-- so the recording as it arrived is filled with nothing
arrived_none : rounds 0 ≡ []
unfolding rounds round
arrived_none = refl

pub arrived_nothing : filling arrived ≡ nothing
arrived_nothing = λ i mask. arrived_none i

-- the next act of each named task
pub acquired_due : {mask t : ℕ} → FillerAcquires mask (due t) ↔ Named mask t
acquired_due = (to, λ d. (act take _ 0, filler tt d (lit< tt), own))
  where
    to : {mask t : ℕ} → FillerAcquires mask (due t) → Named mask t
    to (_, filler l d h, own) = d

-- no join
pub acquired_acted : {mask t : ℕ} → ¬ FillerAcquires mask (acted t)
acquired_acted (_, filler l d h, by_join) = absurd l

-- each object, if a task is named
pub acquired_semaphore : {mask s : ℕ} → FillerAcquires mask (semaphore s) ↔ ((s < semaphores) × ((t : ℕ) × Named mask t))
acquired_semaphore = (to, λ x. (act take _ _, filler tt x.1.1 x.0, by_take))
  where
    to : {mask s : ℕ} → FillerAcquires mask (semaphore s) → (s < semaphores) × ((t : ℕ) × Named mask t)
    to (_, filler l d h, by_take) = (h, (_, d))

pub acquired_flag : {mask f : ℕ} → FillerAcquires mask (flag f) ↔ ((f < flags) × ((t : ℕ) × Named mask t))
acquired_flag = (to, λ x. (act look _ _, filler tt x.1.1 x.0, by_look))
  where
    to : {mask f : ℕ} → FillerAcquires mask (flag f) → (f < flags) × ((t : ℕ) × Named mask t)
    to (_, filler l d h, by_look) = (h, (_, d))

pub released_due : {mask t : ℕ} → FillerReleases mask (due t) ↔ Named mask t
released_due = (to, λ d. (act take _ 0, filler tt d (lit< tt), own_next))
  where
    to : {mask t : ℕ} → FillerReleases mask (due t) → Named mask t
    to (_, filler l d h, own_next) = d
    to (_, filler l d h, by_start) = absurd l

pub released_acted : {mask t : ℕ} → FillerReleases mask (acted t) ↔ Named mask t
released_acted = (to, λ d. (act take _ 0, filler tt d (lit< tt), own_acted))
  where
    to : {mask t : ℕ} → FillerReleases mask (acted t) → Named mask t
    to (_, filler l d h, own_acted) = d

pub released_semaphore : {mask s : ℕ} → FillerReleases mask (semaphore s) ↔ ((s < semaphores) × ((t : ℕ) × Named mask t))
released_semaphore = (to, λ x. (act give _ _, filler tt x.1.1 x.0, by_give))
  where
    to : {mask s : ℕ} → FillerReleases mask (semaphore s) → (s < semaphores) × ((t : ℕ) × Named mask t)
    to (_, filler l d h, by_give) = (h, (_, d))

pub released_flag : {mask f : ℕ} → FillerReleases mask (flag f) ↔ ((f < flags) × ((t : ℕ) × Named mask t))
released_flag = (to, λ x. (act set _ _, filler tt x.1.1 x.0, by_set))
  where
    to : {mask f : ℕ} → FillerReleases mask (flag f) → (f < flags) × ((t : ℕ) × Named mask t)
    to (_, filler l d h, by_set) = (h, (_, d))
