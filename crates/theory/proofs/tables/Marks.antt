-- What a mark does to a table: the hub comes to know what its lost records can acquire, each row that they can release to what the hub knows then,
-- and the named tasks have acted. Assumes nothing.
use mathlib.Core.Path.{◌≡◌, refl, sym, ◌∙◌, ap}
use mathlib.Core.Bool.{Bool, true, false, cond}
use mathlib.Core.Logic.{◌↔◌, ◌⊎◌, inl, inr, ⊎_elim}
use mathlib.Core.List.{List}
use Prim.Native.Nat.{ℕ, zero, suc, ◌+◌, ◌*◌, ◌≤◌, ◌<◌}
use native.Mathlib.Omega.{arith}
use lib.Dec.{T, lit<, eqb}
use Rattle.theory.specs.basics.Turns.{turns}
use Rattle.theory.specs.fillings.Completion.{bit}
use Rattle.theory.specs.tables.Rows.{cell, join_row, row_of, put_row, is_released, hub, row_or_hub, gather, spread, note_named, mix, mark, acted_row, table_rows}
use Rattle.theory.specs.order.Limits.{tasks}
use Rattle.theory.proofs.basics.Reflects.{Reflects, right, wrong, equal}
use Rattle.theory.proofs.tables.Rows.{Sized, Joins, Knows, knows_same, sized_set, sized_turns, sized_join, sized_put, in_table, one_place, stores_at, stores_other, row_cell, put_same, put_other, join_self, join_cell_other, join_knows}

-- Size

pub sized_gather : {w : ℕ} {b : List ℕ} → Sized w b → (j : ℕ → ℕ → ℕ) (mask : ℕ) → Sized w (gather j w mask b)
unfolding gather
sized_gather s j mask = sized_turns tasks (λ k x t. sized_join t j _ _) s

pub sized_spread : {w : ℕ} {b : List ℕ} → Sized w b → (mask : ℕ) → Sized w (spread w mask b)
unfolding spread
sized_spread s mask = sized_turns hub (λ k x t. sized_put t _ _) s

pub sized_mix : {w : ℕ} {b : List ℕ} → Sized w b → (j : ℕ → ℕ → ℕ) (mask : ℕ) → Sized w (mix j w mask b)
unfolding mix note_named
sized_mix s j mask = sized_turns tasks (λ k x t. sized_set t _ _) (sized_spread (sized_gather s j mask) mask)

-- Gathering

module _ (j : ℕ → ℕ → ℕ) {w : ℕ} {b : List ℕ} (s : Sized w b) (mask : ℕ) where
  abbrev Gathered : ℕ → List ℕ
  Gathered n = turns n (λ t x. join_row j w hub (row_or_hub (bit mask t) t) x) b

  sized_part : (n : ℕ) → Sized w (Gathered n)
  sized_part n = sized_turns n (λ t x z. sized_join z j _ _) s

  -- only the hub changes
  gather_other : (n r c : ℕ) → c < w → ¬ (r ≡ hub) → cell w (Gathered n) r c ≡ cell w b r c
  unfolding turns
  gather_other zero r c l d = refl
  gather_other (suc n) r c l d = join_cell_other j (sized_part n) hub _ r c l d ∙ gather_other n r c l d

  gather_kept : (r c : ℕ) → c < w → ¬ (r ≡ hub) → cell w (gather j w mask b) r c ≡ cell w b r c
  unfolding gather
  gather_kept r c l d = gather_other tasks r c l d

-- one of the first n tasks that the mask names knows it
abbrev pub NamedKnows : (ℕ → Type 0) → ℕ → ℕ → List ℕ → ℕ → ℕ → Type 0
NamedKnows P w mask b c n = (t : ℕ) × (t < n) × T (bit mask t) × Knows P w b t c

module _ {j : ℕ → ℕ → ℕ} {P : ℕ → Type 0} (joins : Joins j P) {w : ℕ} {b : List ℕ} (s : Sized w b) (mask c : ℕ) (l : c < w) where
  passing : {X A B C : Type 0} → X ↔ (A ⊎ (B × C)) → X ↔ (A ⊎ (B × T true × C))
  passing q = (λ a. ⊎_elim inl (λ x. inr (x.0, tt, x.1)) (q.0 a), λ a. q.1 (⊎_elim inl (λ x. inr (x.0, x.2)) a))

  -- joining the hub in the place of a row that the mask leaves out changes nothing
  join_named : {x : List ℕ} {q r : ℕ} (p : Bool) → Sized w x →
      Knows P w (join_row j w hub (row_or_hub p q) x) r c ↔ (Knows P w x r c ⊎ ((r ≡ hub) × T p × Knows P w x q c))
  join_named true z = passing (join_knows joins z (lit< tt) l)
  join_named {x} false z = (
    λ a. inl (rw (← join_self joins.alone w hub x) at a),
    ⊎_elim (λ a. rw (← join_self joins.alone w hub x) a) (λ y. absurd y.1),
  )

  gather_turn : (n : ℕ) → n < tasks → Knows P w (Gathered j s mask n) hub c ↔ (Knows P w b hub c ⊎ NamedKnows P w mask b c n) →
      Knows P w (join_row j w hub (row_or_hub (bit mask n) n) (Gathered j s mask n)) hub c ↔ (Knows P w b hub c ⊎ NamedKnows P w mask b c (suc n))
  gather_turn n h before = (λ a. to (turn.0 a), from)
    where
      turn : Knows P w (join_row j w hub (row_or_hub (bit mask n) n) (Gathered j s mask n)) hub c
          ↔ (Knows P w (Gathered j s mask n) hub c ⊎ ((hub ≡ hub) × T (bit mask n) × Knows P w (Gathered j s mask n) n c))
      turn = join_named (bit mask n) (sized_part j s mask n)

      here : Knows P w (Gathered j s mask n) n c ↔ Knows P w b n c
      here = knows_same (gather_other j s mask n n c l (λ e. omega arith))

      later : NamedKnows P w mask b c n → NamedKnows P w mask b c (suc n)
      later (k, m, t, a) = (k, omega arith, t, a)

      to : Knows P w (Gathered j s mask n) hub c ⊎ ((hub ≡ hub) × T (bit mask n) × Knows P w (Gathered j s mask n) n c) → Knows P w b hub c ⊎ NamedKnows P w mask b c (suc n)
      to (inl a) = ⊎_elim inl (λ x. inr (later x)) (before.0 a)
      to (inr (_, t, a)) = inr (n, omega arith, t, here.0 a)

      from_task : (k : ℕ) → k < suc n → T (bit mask k) → Knows P w b k c → {d : Bool} → Reflects (k ≡ n) d →
          Knows P w (join_row j w hub (row_or_hub (bit mask n) n) (Gathered j s mask n)) hub c
      from_task k m t a (right e) = turn.1 (inr (refl, rw e at t, here.1 (rw e at a)))
      from_task k m t a (wrong f) = turn.1 (inl (before.1 (inr (k, omega arith, t, a))))

      from : Knows P w b hub c ⊎ NamedKnows P w mask b c (suc n) → Knows P w (join_row j w hub (row_or_hub (bit mask n) n) (Gathered j s mask n)) hub c
      from (inl a) = turn.1 (inl (before.1 (inl a)))
      from (inr (k, m, t, a)) = from_task k m t a (equal k n)

  gather_turns : (n : ℕ) → n ≤ tasks → Knows P w (Gathered j s mask n) hub c ↔ (Knows P w b hub c ⊎ NamedKnows P w mask b c n)
  unfolding turns
  gather_turns zero h = (inl, ⊎_elim (λ a. a) (λ x. absurd (omega (arith, x.1))))
  gather_turns (suc n) h = gather_turn n h (gather_turns n (omega arith))

  -- the hub comes to know what each named task's next act knows
  gather_hub : Knows P w (gather j w mask b) hub c ↔ (Knows P w b hub c ⊎ NamedKnows P w mask b c tasks)
  unfolding gather
  gather_hub = gather_turns tasks (omega arith)

-- Spreading

module _ {w : ℕ} {b : List ℕ} (s : Sized w b) (mask c : ℕ) (l : c < w) where
  -- a turn leaves a cell as it is where its row is not the one released to; what it puts into the hub is the hub's own
  other_turn : {x : List ℕ} {v : ℕ} (p : Bool) (q r : ℕ) → Sized w x → ¬ ((r ≡ q) × T p) → (r ≡ hub → v ≡ cell w b hub c) → cell w x r c ≡ v →
      cell w (put_row w (row_or_hub p q) (row_of w hub b) x) r c ≡ v
  other_turn {x} true q r z d own e = put_other w x (row_of w hub b) q r c l (λ f. d (f, tt)) ∙ e
  other_turn {x} {v} false q r z d own e = decided (equal r hub)
    where
      decided : {p : Bool} → Reflects (r ≡ hub) p → cell w (put_row w hub (row_of w hub b) x) r c ≡ v
      decided (right f) = rw f (put_same z hub c (row_of w hub b) (lit< tt) l ∙ row_cell w hub b c l) ∙ sym (own f)
      decided (wrong f) = put_other w x (row_of w hub b) hub r c l f ∙ e

  released_turn : {x : List ℕ} (p : Bool) (q : ℕ) → Sized w x → q < table_rows → T p → cell w (put_row w (row_or_hub p q) (row_of w hub b) x) q c ≡ cell w b hub c
  released_turn true q z h t = put_same z q c (row_of w hub b) h l ∙ row_cell w hub b c l
  released_turn false q z h t = absurd t

  abbrev Spread : ℕ → List ℕ
  Spread n = turns n (λ q x. put_row w (row_or_hub (is_released mask q) q) (row_of w hub b) x) b

  sized_spreading : (n : ℕ) → Sized w (Spread n)
  sized_spreading n = sized_turns n (λ q x t. sized_put t _ _) s

  spread_kept : (n r : ℕ) → ¬ ((r < n) × T (is_released mask r)) → cell w (Spread n) r c ≡ cell w b r c
  unfolding turns
  spread_kept zero r d = refl
  spread_kept (suc n) r d =
      other_turn (is_released mask n) n r (sized_spreading n) (λ x. d (omega (arith, x.0), rw x.0 x.1)) (λ e. rw e)
      (spread_kept n r (λ x. d (omega arith, x.1)))

  spread_released : (n r : ℕ) → n ≤ hub → r < n → T (is_released mask r) → cell w (Spread n) r c ≡ cell w b hub c
  unfolding turns
  spread_released zero r k h t = absurd (omega arith)
  spread_released (suc n) r k h t = decided (equal r n) (λ m. spread_released n r (omega arith) m t)
    where
      decided : {p : Bool} → Reflects (r ≡ n) p → (r < n → cell w (Spread n) r c ≡ cell w b hub c) → cell w (Spread (suc n)) r c ≡ cell w b hub c
      decided (right e) f = rw e (released_turn (is_released mask n) n (sized_spreading n) (omega arith) (rw e at t))
      decided (wrong d) f = other_turn (is_released mask n) n r (sized_spreading n) (λ x. d x.0) (λ e. refl) (f (omega arith))

  -- a released row has the hub's cells, and the others have their own
  released_cell : (r : ℕ) → r < hub → T (is_released mask r) → cell w (spread w mask b) r c ≡ cell w b hub c
  unfolding spread
  released_cell r h t = spread_released hub r (omega arith) h t

  untold_cell : (r : ℕ) → ¬ ((r < hub) × T (is_released mask r)) → cell w (spread w mask b) r c ≡ cell w b r c
  unfolding spread
  untold_cell r d = spread_kept hub r d

-- Named tasks

module _ {w : ℕ} {b : List ℕ} (s : Sized w b) (mask : ℕ) (wide : tasks ≤ w) where
  abbrev noted : ℕ → List ℕ → ℕ
  noted t x = cond (bit mask t) 1 (cell w x acted_row t)

  named_other : (r c : ℕ) → c < w → ¬ (r ≡ acted_row) → cell w (note_named w mask b) r c ≡ cell w b r c
  unfolding note_named
  named_other r c l d = stores_other (acted_row * w) noted b tasks (r * w + c) (λ t h e. d (one_place w r acted_row c t l (omega arith) e).0)

  named_cell : (t : ℕ) → t < tasks → cell w (note_named w mask b) acted_row t ≡ cond (bit mask t) 1 (cell w b acted_row t)
  unfolding note_named
  named_cell t l =
      stores_at (acted_row * w) noted b tasks t l (in_table s (omega arith) (omega arith))
      ∙ ap (cond (bit mask t) 1) (stores_other (acted_row * w) noted b t (acted_row * w + t) (λ c h e. omega arith))

-- Marks

module _ {j : ℕ → ℕ → ℕ} {P : ℕ → Type 0} (joins : Joins j P) {w : ℕ} {b : List ℕ} (s : Sized w b) (mask c : ℕ) (wide : tasks ≤ w) (l : c < w) where
  sized_gathered : Sized w (gather j w mask b)
  sized_gathered = sized_gather s j mask

  -- over a mark the hub and each released row know what the hub or a named task's next act knew
  pub mix_hub : Knows P w (mix j w mask b) hub c ↔ (Knows P w b hub c ⊎ NamedKnows P w mask b c tasks)
  unfolding mix
  mix_hub =
      let q = knows_same {P = P} (named_other (sized_spread sized_gathered mask) mask wide hub c l (λ e. omega arith) ∙ untold_cell sized_gathered mask c l hub (λ x. omega (arith, x.0))) in
      let g = gather_hub joins s mask c l in
      (λ a. g.0 (q.0 a), λ a. q.1 (g.1 a))

  pub mix_released : (r : ℕ) → r < hub → T (is_released mask r) → Knows P w (mix j w mask b) r c ↔ (Knows P w b hub c ⊎ NamedKnows P w mask b c tasks)
  unfolding mix
  mix_released r h t =
      let q = knows_same {P = P} (named_other (sized_spread sized_gathered mask) mask wide r c l (λ e. omega arith) ∙ released_cell sized_gathered mask c l r h t) in
      let g = gather_hub joins s mask c l in
      (λ a. g.0 (q.0 a), λ a. q.1 (g.1 a))

  -- and the others what they knew
  pub mix_untold : (r : ℕ) → r < hub → ¬ T (is_released mask r) → Knows P w (mix j w mask b) r c ↔ Knows P w b r c
  unfolding mix
  mix_untold r h n =
      knows_same
      (named_other (sized_spread sized_gathered mask) mask wide r c l (λ e. omega arith)
      ∙ (untold_cell sized_gathered mask c l r (λ x. n x.1) ∙ gather_kept j s mask r c l (λ e. omega arith)))

-- the named tasks have acted, and those that had
pub mix_acted : {w : ℕ} {b : List ℕ} → Sized w b → (j : ℕ → ℕ → ℕ) (mask t : ℕ) → tasks ≤ w → t < tasks → cell w (mix j w mask b) acted_row t ≡ cond (bit mask t) 1 (cell w b acted_row t)
unfolding mix
mix_acted {w} {b} s j mask t wide h =
    named_cell (sized_spread (sized_gather s j mask) mask) mask wide t h
    ∙ ap (cond (bit mask t) 1) (untold_cell (sized_gather s j mask) mask t (omega arith) acted_row (λ x. omega (arith, x.0)) ∙ gather_kept j s mask acted_row t (omega arith) (λ e. omega arith))

-- a mark keeps the size
pub sized_mark : {w : ℕ} {b : List ℕ} → Sized w b → (j : ℕ → ℕ → ℕ) (mask : ℕ) → Sized w (mark j w mask b)
sized_mark {w} {b} s j mask = decided (eqb mask 0)
  where
    decided : (c : Bool) → Sized w (cond c b (mix j w mask b))
    decided true = s
    decided false = sized_mix s j mask
