-- Order from chosen events of a recording: to which nodes it has come, and how one more act or mark at the end moves it on.
-- Clocks choose the records of a task, sets the access that a slot keeps; both follow from the same law. Assumes nothing.
use mathlib.Core.Logic.{◌↔◌, ◌⊎◌, inl, inr}
use mathlib.Core.List.{List, [], ◌∷◌, ◌++◌}
use Prim.Native.Nat.{ℕ, suc, ◌≤◌, ◌<◌, suc-le-suc, zero-le}
use lib.ListN.{length}
use Rattle.theory.specs.order.Recording.{Event}
use Rattle.theory.proofs.order.Carry.{Node, due, acted, Releases}
use Rattle.theory.specs.fillings.Completion.{Filling}
use Rattle.theory.proofs.fillings.Reach.{Flow, Reach, reach_start, reach_next, reach_acted}
use Rattle.theory.proofs.order.Places.{Occurs, first, next}

-- Definition

-- order has come to node n from an event at place i or later that `Chosen` chooses, by it and what stands after it
pub record Came (w : Filling) (Chosen : Event → List Event → Type 0) (es : List Event) (i : ℕ) (n : Node) : Type 0 where
  pub j : ℕ
  pub e : Event
  pub after : List Event
  pub recent : i ≤ j
  pub occurs : Occurs es j e after
  pub chosen : Chosen e after
  pub reach : Reach w e after n

-- what has come to a task's having acted has come to its next act
pub came_acted : {w : Filling} {Chosen : Event → List Event → Type 0} {es : List Event} {i t : ℕ} → Came w Chosen es i (acted t) → Came w Chosen es i (due t)
came_acted d = record { j = d.j; e = d.e; after = d.after; recent = d.recent; occurs = d.occurs; chosen = d.chosen; reach = reach_acted d.reach }

-- One more event

-- an event of a list with x at its end is one of the list, with x after it too, or x
pub data Snoc (es : List Event) (x : Event) : ℕ → Event → List Event → Type 0 where
  old : {j : ℕ} {e : Event} {after : List Event} → Occurs es j e after → Snoc es x j e (after ++ (x ∷ []))
  new : Snoc es x (length es) x []

pub occurs_snoc : (es : List Event) {x e : Event} {j : ℕ} {after : List Event} → Occurs (es ++ (x ∷ [])) j e after → Snoc es x j e after
occurs_snoc [] first = new
occurs_snoc [] (next o) = elim o [ ]
occurs_snoc (d ∷ es) first = old first
occurs_snoc (d ∷ es) (next o) = further (occurs_snoc es o)
  where
    further : {es : List Event} {x d e : Event} {j : ℕ} {after : List Event} → Snoc es x j e after → Snoc (d ∷ es) x (suc j) e after
    further (old o) = old (next o)
    further new = new

pub occurs_old : {es after : List Event} {e : Event} {j : ℕ} (x : Event) → Occurs es j e after → Occurs (es ++ (x ∷ [])) j e (after ++ (x ∷ []))
occurs_old x first = first
occurs_old x (next o) = next (occurs_old x o)

pub occurs_new : (es : List Event) {x : Event} → Occurs (es ++ (x ∷ [])) (length es) x []
occurs_new [] = first
occurs_new (d ∷ es) = next (occurs_new es)

pub occurs_short : {es after : List Event} {j : ℕ} {e : Event} → Occurs es j e after → j < length es
occurs_short first = suc-le-suc zero-le
occurs_short (next o) = suc-le-suc (occurs_short o)

-- from what was chosen before x: where it had come, or where it goes over x
abbrev pub Onward : Filling → (Event → List Event → Type 0) → List Event → Event → ℕ → Node → Type 0
Onward w Chosen es x i n = Came w Chosen es i n ⊎ ((p : Node) × Came w Chosen es i p × Flow w x p n)

-- from x itself
abbrev pub Newly : (Event → List Event → Type 0) → List Event → Event → ℕ → Type 0
Newly Chosen es x i = (i ≤ length es) × Chosen x []

-- x leaves what was chosen as it was where `Stays` holds, and no longer chosen where it does not
module _ {w : Filling} {Chosen : Event → List Event → Type 0} {Stays : Type 0} (es : List Event) (x : Event)
    (keeps : (e : Event) (after : List Event) → Chosen e (after ++ (x ∷ [])) ↔ (Stays × Chosen e after)) where
  pub came_next : {i : ℕ} {n : Node} → Came w Chosen (es ++ (x ∷ [])) i n ↔ ((Stays × Onward w Chosen es x i n) ⊎ (Newly Chosen es x i × Releases x n))
  came_next {i} {n} = (λ c. to (occurs_snoc es c.occurs) c.recent c.chosen c.reach, from)
    where
      to : {j : ℕ} {e : Event} {after : List Event} → Snoc es x j e after → i ≤ j → Chosen e after → Reach w e after n →
          (Stays × Onward w Chosen es x i n) ⊎ (Newly Chosen es x i × Releases x n)
      to (old {j = j} {e = e} {after = after} o) h c r = let (s, d) = (keeps e after).0 c in inl (s, moved d ((reach_next after x).0 r))
        where
          moved : Chosen e after → Reach w e after n ⊎ ((p : Node) × Reach w e after p × Flow w x p n) → Onward w Chosen es x i n
          moved d (inl q) = inl (record { j = j; e = e; after = after; recent = h; occurs = o; chosen = d; reach = q })
          moved d (inr (p, q, f)) = inr (p, record { j = j; e = e; after = after; recent = h; occurs = o; chosen = d; reach = q }, f)
      to new h c r = inr ((h, c), reach_start.0 r)

      still : {p : Node} → Stays → (c : Came w Chosen es i p) → Reach w c.e (c.after ++ (x ∷ [])) n → Came w Chosen (es ++ (x ∷ [])) i n
      still s c r =
          record {
            j = c.j;
            e = c.e;
            after = c.after ++ (x ∷ []);
            recent = c.recent;
            occurs = occurs_old x c.occurs;
            chosen = (keeps c.e c.after).1 (s, c.chosen);
            reach = r;
          }

      from : (Stays × Onward w Chosen es x i n) ⊎ (Newly Chosen es x i × Releases x n) → Came w Chosen (es ++ (x ∷ [])) i n
      from (inl (s, inl c)) = still s c ((reach_next c.after x).1 (inl c.reach))
      from (inl (s, inr (p, c, f))) = still s c ((reach_next c.after x).1 (inr (p, c.reach, f)))
      from (inr ((h, c), t)) = record { j = length es; e = x; after = []; recent = h; occurs = occurs_new es; chosen = c; reach = reach_start.1 t }
