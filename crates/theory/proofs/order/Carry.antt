-- What carries order onward after an event: nodes. An event acquires some nodes and releases to some, and a step is a node that one event
-- releases to and the other acquires. So order goes along a list from node to node, and each new op is one more row of `Acquires` or `Releases`.
-- Assumes nothing.
use mathlib.Core.Path.{◌≡◌, refl, subst}
use mathlib.Core.Logic.{◌⊎◌, inl, inr, ⊎_elim}
use mathlib.Core.List.{List, [], ◌∷◌, ◌++◌}
use Prim.Native.Nat.{ℕ, zero, suc, ◌<◌}
use native.Mathlib.Nat.{le_of_suc-le-suc, not-suc-le-zero}
use Rattle.theory.specs.order.Recording.{Op, take, give, look, set, start, join, Event, act}
use Rattle.theory.specs.order.Path.{Step, same_task, gives_takes, sets_looks, starts, joins}
use Rattle.theory.specs.fillings.Completion.{in_turn}
use Rattle.theory.proofs.order.Leads.{Leads, last, over, via}

-- Definition

-- `due t` is task t's next act; `acted t` is that task t has acted, which is what a join of t acquires
pub data Node : Type 0 where
  due acted semaphore flag : ℕ → Node

pub data Acquires : Node → Event → Type 0 where
  own : {o : Op} {t n : ℕ} → Acquires (due t) (act o t n)
  by_take : {t s : ℕ} → Acquires (semaphore s) (act take t s)
  by_look : {t f : ℕ} → Acquires (flag f) (act look t f)
  by_join : {t u : ℕ} → Acquires (acted u) (act join t u)

pub data Releases : Event → Node → Type 0 where
  own_next : {o : Op} {t n : ℕ} → Releases (act o t n) (due t)
  own_acted : {o : Op} {t n : ℕ} → Releases (act o t n) (acted t)
  by_give : {t s : ℕ} → Releases (act give t s) (semaphore s)
  by_set : {t f : ℕ} → Releases (act set t f) (flag f)
  by_start : {t u : ℕ} → Releases (act start t u) (due u)

-- order that has come to node n goes along the list to node m
pub data Carry : Node → List Event → Node → Type 0 where
  stay : {n : Node} → Carry n [] n
  pass : {n m : Node} {x : Event} {xs : List Event} → Carry n xs m → Carry n (x ∷ xs) m
  move : {n p m : Node} {x : Event} {xs : List Event} → Acquires n x → Releases x p → Carry p xs m → Carry n (x ∷ xs) m

-- Steps by nodes

pub step_released : {e f : Event} → Step e f → (n : Node) × Releases e n × Acquires n f
step_released same_task = (due _, own_next, own)
step_released gives_takes = (semaphore _, by_give, by_take)
step_released sets_looks = (flag _, by_set, by_look)
step_released starts = (due _, by_start, own)
step_released joins = (acted _, own_acted, by_join)

pub step_acquired : {e f : Event} {n : Node} → Releases e n → Acquires n f → Step e f
step_acquired own_next own = same_task
step_acquired own_acted by_join = joins
step_acquired by_give by_take = gives_takes
step_acquired by_set by_look = sets_looks
step_acquired by_start own = starts

-- Carrying along a list

pub carry_skip : {n : Node} (xs : List Event) → Carry n xs n
carry_skip [] = stay
carry_skip (x ∷ xs) = pass (carry_skip xs)

pub carry_append : {n p m : Node} {xs ys : List Event} → Carry n xs p → Carry p ys m → Carry n (xs ++ ys) m
carry_append stay d = d
carry_append (pass c) d = pass (carry_append c d)
carry_append (move h t c) d = move h t (carry_append c d)

pub carry_split : {n m : Node} (xs : List Event) {ys : List Event} → Carry n (xs ++ ys) m → (p : Node) × Carry n xs p × Carry p ys m
carry_split [] d = (_, stay, d)
carry_split (x ∷ xs) (pass d) = let (p, c, r) = carry_split xs d in (p, pass c, r)
carry_split (x ∷ xs) (move h t d) = let (p, c, r) = carry_split xs d in (p, move h t c, r)

-- what tells that a task has acted tells its next act
pub acted_next : {x : Event} {t : ℕ} → Releases x (acted t) → Releases x (due t)
acted_next own_acted = own_next

-- so order that comes to the one along a list comes to the other
pub carry_acted : {n : Node} {t : ℕ} {xs : List Event} → Carry n xs (acted t) → (n ≡ acted t) ⊎ Carry n xs (due t)
carry_acted stay = inl refl
carry_acted (pass c) = ⊎_elim inl (λ d. inr (pass d)) (carry_acted c)
carry_acted {t = t} (move {p = p} {x = x} {xs = xs} h y c) = inr (⊎_elim (λ e. move h (acted_next (subst (Releases x) e y)) (carry_skip xs)) (λ d. move h y d) (carry_acted c))

-- one event that acquires n and releases to m carries the one to the other
pub carry_one : {n m : Node} {x : Event} → Acquires n x → Releases x m → Carry n (x ∷ []) m
carry_one h t = move h t stay

-- in a list of lists by number, any one of them is enough: for tasks, semaphores and flags alike
pub carry_in_turn : {a b : Node} (n : ℕ) (f : ℕ → List Event) (k : ℕ) → k < n → Carry a (f k) b → Carry a (in_turn n f) b
carry_in_turn zero f k h c = absurd (not-suc-le-zero h)
carry_in_turn (suc n) f zero h c = carry_append c (carry_skip (in_turn n (λ k. f (suc k))))
carry_in_turn (suc n) f (suc k) h c = carry_append (carry_skip (f zero)) (carry_in_turn n (λ k. f (suc k)) k (le_of_suc-le-suc h) c)

-- Paths by nodes

pub leads_carried : {e f : Event} {mid : List Event} → Leads e mid f → (n : Node) × (m : Node) × Releases e n × Carry n mid m × Acquires m f
leads_carried (last s) = let (n, t, h) = step_released s in (n, n, t, stay, h)
leads_carried (over p) = let (n, m, t, c, h) = leads_carried p in (n, m, t, pass c, h)
leads_carried (via s p) =
    let (n, t, h) = step_released s in
    let (n', m, t', c, h') = leads_carried p in
    (n, m, t, move h t' c, h')

pub carried_leads : {e f : Event} {mid : List Event} {n m : Node} → Releases e n → Carry n mid m → Acquires m f → Leads e mid f
carried_leads t stay h = last (step_acquired t h)
carried_leads t (pass c) h = over (carried_leads t c h)
carried_leads t (move h' t' c) h = via (step_acquired t h') (carried_leads t' c h)
