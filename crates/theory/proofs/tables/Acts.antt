-- What an act does to a table: its own cell, a column that begins afresh, and which rows come to know what the others knew.
-- Assumes nothing.
use mathlib.Core.Path.{◌≡◌, refl, ◌∙◌, ap}
use mathlib.Core.Bool.{Bool, true, false, cond, not, ◌||◌}
use mathlib.Core.Logic.{◌↔◌, ◌⊎◌, inl, inr, ⊎_elim, ◌≢◌}
use mathlib.Core.List.{List}
use Prim.Native.Nat.{ℕ, zero, suc, ◌+◌, ◌*◌, ◌≤◌, ◌<◌}
use native.Mathlib.Omega.{arith}
use borrow.Author.Tests.{lt-ltb, eq-eqb, ne_eqb}
use lib.Dec.{ltb, eqb}
use lib.ListN.{set}
use Rattle.theory.specs.history.History.{slots}
use Rattle.theory.specs.basics.Turns.{turns}
use Rattle.theory.specs.fillings.Completion.{bit}
use Rattle.theory.specs.tables.Rows.{cell, join_row, also_released, flow, note_acted, hub, row_count, acted_row, table_rows}
use Rattle.theory.specs.tables.Reckonings.{slot_words, clock_own, has_slot, with_bit, without_bit, clear_slot, add_slot, slot_word, slot_place}
use Rattle.theory.specs.order.Limits.{tasks}
use Rattle.theory.proofs.basics.Reflects.{Reflects, right, wrong, equal}
use Rattle.theory.proofs.tables.Rows.{Sized, Same, Joins, Knows, sized_set, sized_turns, sized_join, cell_set_same, cell_set_other, join_self, join_cell_other, join_knows}
use Rattle.theory.proofs.tables.Words.{with_bit_lem, without_bit_lem}

-- Rows

also_below : (asked : Bool) (released task : ℕ) → task < tasks → also_released asked released task < table_rows
also_below asked released task h = of (ltb released tasks || not asked)
  where
    of : (p : Bool) → cond p task hub < table_rows
    of true = omega arith
    of false = omega arith

pub sized_flow : {w : ℕ} {b : List ℕ} → Sized w b → (j : ℕ → ℕ → ℕ) (asked : Bool) (acquired released task : ℕ) → Sized w (flow j w asked acquired released task b)
unfolding flow
sized_flow s j asked acquired released task = sized_join (sized_join (sized_join s j _ _) j _ _) j _ _

-- order over an act: its task's next act and the rows that it releases to know what the next act or the acquired row knew, and all rows what they knew
pub flow_knows : {j : ℕ → ℕ → ℕ} {P : ℕ → Type 0} → Joins j P → (asked : Bool) {w : ℕ} {b : List ℕ} {acquired released task r c : ℕ} → Sized w b → released < table_rows → task < tasks → c < w →
    Knows P w (flow j w asked acquired released task b) r c
    ↔ (Knows P w b r c ⊎ (((r ≡ task) ⊎ ((r ≡ released) ⊎ (r ≡ also_released asked released task))) × (Knows P w b task c ⊎ Knows P w b acquired c)))
unfolding flow
flow_knows {j} {P} joins asked {w} {b} {acquired} {released} {task} {r} {c} s k l n = (to, from)
  where
    first : List ℕ
    first = join_row j w task acquired b

    second : List ℕ
    second = join_row j w released task first

    on_first : (q : ℕ) → Knows P w first q c ↔ (Knows P w b q c ⊎ ((q ≡ task) × Knows P w b acquired c))
    on_first q = join_knows joins s (omega arith) n

    on_second : (q : ℕ) → Knows P w second q c ↔ (Knows P w first q c ⊎ ((q ≡ released) × Knows P w first task c))
    on_second q = join_knows joins (sized_join s j _ _) k n

    on_third : Knows P w (join_row j w (also_released asked released task) task second) r c ↔ (Knows P w second r c ⊎ ((r ≡ also_released asked released task) × Knows P w second task c))
    on_third = join_knows joins (sized_join (sized_join s j _ _) j _ _) (also_below asked released task l) n

    -- what the next act knows from the first join on
    known : Knows P w first task c ↔ (Knows P w b task c ⊎ Knows P w b acquired c)
    known = (
      λ a. ⊎_elim inl (λ x. inr x.1) ((on_first task).0 a),
      λ a. (on_first task).1 (⊎_elim inl (λ x. inr (refl, x)) a),
    )

    still : Knows P w second task c → Knows P w first task c
    still a = ⊎_elim (λ x. x) (λ x. x.1) ((on_second task).0 a)

    to : Knows P w (join_row j w (also_released asked released task) task second) r c →
        Knows P w b r c ⊎ (((r ≡ task) ⊎ ((r ≡ released) ⊎ (r ≡ also_released asked released task))) × (Knows P w b task c ⊎ Knows P w b acquired c))
    to a = ⊎_elim before (λ x. inr (inr (inr x.0), known.0 (still x.1))) (on_third.0 a)
      where
        before : Knows P w second r c → Knows P w b r c ⊎ (((r ≡ task) ⊎ ((r ≡ released) ⊎ (r ≡ also_released asked released task))) × (Knows P w b task c ⊎ Knows P w b acquired c))
        before x = ⊎_elim (λ y. ⊎_elim inl (λ z. inr (inl z.0, inr z.1)) ((on_first r).0 y)) (λ y. inr (inr (inl y.0), known.0 y.1)) ((on_second r).0 x)

    from : Knows P w b r c ⊎ (((r ≡ task) ⊎ ((r ≡ released) ⊎ (r ≡ also_released asked released task))) × (Knows P w b task c ⊎ Knows P w b acquired c)) →
        Knows P w (join_row j w (also_released asked released task) task second) r c
    from (inl a) = on_third.1 (inl ((on_second r).1 (inl ((on_first r).1 (inl a)))))
    from (inr (inl e, a)) = on_third.1 (inl ((on_second r).1 (inl (rw e (known.1 a)))))
    from (inr (inr (inl e), a)) = on_third.1 (inl ((on_second r).1 (inr (e, known.1 a))))
    from (inr (inr (inr e), a)) = on_third.1 (inr (e, (on_second task).1 (inl (known.1 a))))

-- nothing is released to the row of what has acted
pub flow_acted : (j : ℕ → ℕ → ℕ) (asked : Bool) {w : ℕ} {b : List ℕ} (acquired : ℕ) {released task c : ℕ} → Sized w b → released < hub → task < tasks → c < w →
    cell w (flow j w asked acquired released task b) acted_row c ≡ cell w b acted_row c
unfolding flow
flow_acted j asked {w} {b} acquired {released} {task} {c} s k l n =
    join_cell_other j (sized_join (sized_join s j _ _) j _ _) _ _ acted_row c n (λ e. apart (ltb released tasks || not asked) e)
    ∙ (join_cell_other j (sized_join s j _ _) _ _ acted_row c n (λ e. omega arith) ∙ join_cell_other j s _ _ acted_row c n (λ e. omega arith))
  where
    apart : (p : Bool) → ¬ (acted_row ≡ cond p task hub)
    apart true e = omega arith
    apart false e = omega arith

-- order over an act that acquires from and releases to no other row changes nothing
pub flow_alone : {j : ℕ → ℕ → ℕ} → Same j → (w : ℕ) (asked : Bool) (t : ℕ) (b : List ℕ) → t < tasks → b ≡ flow j w asked t t t b
unfolding flow
flow_alone s w asked t b h = rw (lt-ltb t tasks h, ← join_self s w t b, ← join_self s w t b) (join_self s w t b)

-- That a task has acted

pub sized_note : {w : ℕ} {b : List ℕ} → Sized w b → (task : ℕ) → Sized w (note_acted w task b)
sized_note s task = sized_set s _ _

-- the other rows are as they were
pub note_other : (w : ℕ) (b : List ℕ) (task r c : ℕ) → task < w → c < w → ¬ (r ≡ acted_row) → cell w (note_acted w task b) r c ≡ cell w b r c
note_other w b task r c h l n = cell_set_other w b acted_row task 1 r c h l (λ x. n x.0)

pub note_cell : {w : ℕ} {b : List ℕ} → Sized w b → (task t : ℕ) → task < w → t < w → cell w (note_acted w task b) acted_row t ≡ cond (eqb t task) 1 (cell w b acted_row t)
note_cell {w} {b} s task t h l = decided (equal t task)
  where
    decided : {p : Bool} → Reflects (t ≡ task) p → cell w (note_acted w task b) acted_row t ≡ cond p 1 (cell w b acted_row t)
    decided (right e) = rw e (cell_set_same s acted_row task 1 (omega arith) h)
    decided (wrong n) = cell_set_other w b acted_row task 1 acted_row t h l (λ x. n x.1)

-- Clocks: an act's own cell has its number

pub sized_clock_own : {b : List ℕ} → Sized tasks b → (task number : ℕ) → Sized tasks (clock_own task number b)
sized_clock_own s task number = sized_note (sized_set s _ _) task

pub clock_own_same : {b : List ℕ} → Sized tasks b → (task number : ℕ) → task < tasks → cell tasks (clock_own task number b) task task ≡ number
clock_own_same {b} s task number h =
    note_other tasks (set b (task * tasks + task) number) task task task h h (λ e. omega arith) ∙ cell_set_same s task task number (omega arith) h

pub clock_own_other : (b : List ℕ) (task number r c : ℕ) → task < tasks → c < tasks → r < row_count → ¬ ((r ≡ task) × (c ≡ task)) →
    cell tasks (clock_own task number b) r c ≡ cell tasks b r c
clock_own_other b task number r c h l m f =
    note_other tasks (set b (task * tasks + task) number) task r c h l (λ e. omega arith) ∙ cell_set_other tasks b task task number r c h l f

pub clock_own_acted : {b : List ℕ} → Sized tasks b → (task number t : ℕ) → task < tasks → t < tasks → cell tasks (clock_own task number b) acted_row t ≡ cond (eqb t task) 1 (cell tasks b acted_row t)
clock_own_acted {b} s task number t h l =
    note_cell (sized_set s _ _) task t h l
    ∙ ap (cond (eqb t task) 1) (cell_set_other tasks b task task number acted_row t h l (λ x. omega (arith, x.0)))

-- Sets: an access begins its slot afresh, with its own row

-- two slots of one word stand at two places in it
apart_places : {s s' : ℕ} → s' ≢ s → slot_word s' ≡ slot_word s → ¬ (slot_place s' ≡ slot_place s)
apart_places n e f = n (omega arith)

module _ {b : List ℕ} (t : Sized slot_words b) (s : ℕ) (m : s < slots) where
  abbrev Cleared : ℕ → List ℕ
  Cleared n = turns n (λ r x. set x (r * slot_words + slot_word s) (without_bit (slot_place s) (cell slot_words x r (slot_word s)))) b

  sized_cleared : (n : ℕ) → Sized slot_words (Cleared n)
  sized_cleared n = sized_turns n (λ q x z. sized_set z _ _) t

  -- rows that the turns have not come to, and other words
  clear_later : (n r c : ℕ) → c < slot_words → ¬ ((r < n) × (c ≡ slot_word s)) → cell slot_words (Cleared n) r c ≡ cell slot_words b r c
  unfolding turns
  clear_later zero r c l f = refl
  clear_later (suc n) r c l f =
      cell_set_other slot_words (Cleared n) n (slot_word s) _ r c (omega arith) l (λ x. f (omega (arith, x.0), x.1))
      ∙ clear_later n r c l (λ x. f (omega arith, x.1))

  clear_same : (n r : ℕ) → n ≤ row_count → r < n → cell slot_words (Cleared n) r (slot_word s) ≡ without_bit (slot_place s) (cell slot_words b r (slot_word s))
  unfolding turns
  clear_same zero r k h = absurd (omega arith)
  clear_same (suc n) r k h = decided (equal r n) (clear_same n r (omega arith))
    where
      decided : {p : Bool} → Reflects (r ≡ n) p → (r < n → cell slot_words (Cleared n) r (slot_word s) ≡ without_bit (slot_place s) (cell slot_words b r (slot_word s))) →
          cell slot_words (set (Cleared n) (n * slot_words + slot_word s) (without_bit (slot_place s) (cell slot_words (Cleared n) n (slot_word s)))) r (slot_word s) ≡ without_bit (slot_place s) (cell slot_words b r (slot_word s))
      decided (right e) f =
          rw e (cell_set_same (sized_cleared n) n (slot_word s) _ (omega arith) (omega arith) ∙ ap (without_bit (slot_place s)) (clear_later n n (slot_word s) (omega arith) (λ x. omega (arith, x.0))))
      decided (wrong d) f =
          cell_set_other slot_words (Cleared n) n (slot_word s) _ r (slot_word s) (omega arith) (omega arith) (λ x. d x.0) ∙ f (omega arith)

  sized_clear : Sized slot_words (clear_slot s b)
  unfolding clear_slot
  sized_clear = sized_cleared row_count

  clear_gone : (r : ℕ) → r < row_count → has_slot (clear_slot s b) r s ≡ false
  unfolding clear_slot
  clear_gone r h = rw (clear_same row_count r (omega arith) h, without_bit_lem (slot_place s) (slot_place s) (cell slot_words b r (slot_word s)) (omega arith) (omega arith), eq-eqb (slot_place s) (slot_place s) refl)

  clear_kept : (r s' : ℕ) → r < row_count → s' < slots → s' ≢ s → has_slot (clear_slot s b) r s' ≡ has_slot b r s'
  unfolding clear_slot
  clear_kept r s' h l n = decided (equal (slot_word s') (slot_word s))
    where
      decided : {p : Bool} → Reflects (slot_word s' ≡ slot_word s) p → has_slot (Cleared row_count) r s' ≡ has_slot b r s'
      decided (right e) =
          rw (e, clear_same row_count r (omega arith) h, without_bit_lem (slot_place s) (slot_place s') (cell slot_words b r (slot_word s)) (omega arith) (omega arith), ne_eqb (slot_place s') (slot_place s) (apart_places n e))
      decided (wrong d) = ap (λ (x : ℕ). bit x (slot_place s')) (clear_later row_count r (slot_word s') (omega arith) (λ x. d x.1))

  clear_acted : (c : ℕ) → c < slot_words → cell slot_words (clear_slot s b) acted_row c ≡ cell slot_words b acted_row c
  unfolding clear_slot
  clear_acted c l = clear_later row_count acted_row c l (λ x. omega (arith, x.0))

module _ {b : List ℕ} (t : Sized slot_words b) (r₀ s : ℕ) (k : r₀ < tasks) (m : s < slots) where
  add_same : has_slot (add_slot r₀ s b) r₀ s ≡ true
  add_same = rw (
    cell_set_same t r₀ (slot_word s) (with_bit (slot_place s) (cell slot_words b r₀ (slot_word s))) (omega arith) (omega arith),
    with_bit_lem (slot_place s) (slot_place s) (cell slot_words b r₀ (slot_word s)) (omega arith) (omega arith),
    eq-eqb (slot_place s) (slot_place s) refl,
  )

  add_row : (r c : ℕ) → c < slot_words → ¬ (r ≡ r₀) → cell slot_words (add_slot r₀ s b) r c ≡ cell slot_words b r c
  add_row r c l n = cell_set_other slot_words b r₀ (slot_word s) _ r c (omega arith) l (λ x. n x.0)

  add_kept : (r s' : ℕ) → s' < slots → s' ≢ s → has_slot (add_slot r₀ s b) r s' ≡ has_slot b r s'
  add_kept r s' l n = decided (equal r r₀) (equal (slot_word s') (slot_word s))
    where
      decided : {p q : Bool} → Reflects (r ≡ r₀) p → Reflects (slot_word s' ≡ slot_word s) q → has_slot (add_slot r₀ s b) r s' ≡ has_slot b r s'
      decided (wrong d) _ = ap (λ (x : ℕ). bit x (slot_place s')) (add_row r (slot_word s') (omega arith) d)
      decided (right e) (wrong d) = ap (λ (x : ℕ). bit x (slot_place s')) (cell_set_other slot_words b r₀ (slot_word s) _ r (slot_word s') (omega arith) (omega arith) (λ x. d x.1))
      decided (right e) (right f) = rw (
        e,
        f,
        cell_set_same t r₀ (slot_word s) (with_bit (slot_place s) (cell slot_words b r₀ (slot_word s))) (omega arith) (omega arith),
        with_bit_lem (slot_place s) (slot_place s') (cell slot_words b r₀ (slot_word s)) (omega arith) (omega arith),
        ne_eqb (slot_place s') (slot_place s) (apart_places n f),
      )

-- at its own row the slot is there, at the others it is not, and the other slots are as they were
module _ {b : List ℕ} (t : Sized slot_words b) (task s : ℕ) (h : task < tasks) (m : s < slots) where
  pub sized_afresh : Sized slot_words (add_slot task s (clear_slot s b))
  sized_afresh = sized_set (sized_clear t s m) _ _

  pub afresh_own : has_slot (add_slot task s (clear_slot s b)) task s ≡ true
  afresh_own = add_same (sized_clear t s m) task s h m

  pub afresh_cleared : (r : ℕ) → r < row_count → r ≢ task → has_slot (add_slot task s (clear_slot s b)) r s ≡ false
  afresh_cleared r l n = ap (λ (x : ℕ). bit x (slot_place s)) (add_row (sized_clear t s m) task s h m r (slot_word s) (omega arith) n) ∙ clear_gone t s m r l

  pub afresh_other : (r s' : ℕ) → r < row_count → s' < slots → s' ≢ s → has_slot (add_slot task s (clear_slot s b)) r s' ≡ has_slot b r s'
  afresh_other r s' l k n = add_kept (sized_clear t s m) task s h m r s' k n ∙ clear_kept t s m r s' l k n

  pub afresh_acted : (c : ℕ) → c < slot_words → cell slot_words (add_slot task s (clear_slot s b)) acted_row c ≡ cell slot_words b acted_row c
  afresh_acted c l = add_row (sized_clear t s m) task s h m acted_row c l (λ e. omega arith) ∙ clear_acted t s m c l
