-- A take of a semaphore that its task gave last does to the clocks what a miss does: its own entry, and nothing else. Assumes nothing.
use mathlib.Core.Path.{◌≡◌, refl, sym, ◌∙◌, ap, subst}
use mathlib.Core.Bool.{Bool, true, false, cond, ◌&&◌}
use mathlib.Mathlib.Data.Bool.Basic.{and_elim_right}
use mathlib.Core.List.{List}
use Prim.Native.Nat.{ℕ, zero, suc, ◌+◌, ◌*◌, ◌≤◌, ◌<◌, max}
use native.Mathlib.Omega.{arith}
use lib.ListN.{length}
use lib.Seq.{set-get_or}
use Rattle.theory.specs.order.Limits.{tasks, semaphores}
use Rattle.theory.specs.order.Recording.{Op, Event, kind, series_size}
use Rattle.theory.specs.acceptance.Table.{Fitting}
use Rattle.theory.specs.acceptance.Control.{under_in, gave_in}
use Rattle.theory.specs.skipping.Skipping.{giver}
use Rattle.theory.specs.feeding.Step.{next_number, clock_kind}
use Rattle.theory.specs.fillings.Completion.{Filling, fills}
use Rattle.theory.specs.basics.Turns.{turns}
use Rattle.theory.specs.tables.Rows.{cell, semaphore_row, join_cell, join_row, flow}
use Rattle.theory.specs.tables.Reckonings.{clock_own, next_clocks}
use Rattle.theory.proofs.basics.Reflects.{Reflects, right, wrong, equal, at_most}
use Rattle.theory.proofs.order.Carry.{Node, due, semaphore}
use Rattle.theory.proofs.fillings.Came.{Came, occurs_short}
use Rattle.theory.proofs.tables.Rows.{same_max, join_self}
use Rattle.theory.proofs.tables.Acts.{clock_own_same, clock_own_other}
use Rattle.theory.proofs.tables.Nodes.{row, InRange, due_in, semaphore_in}
use Rattle.theory.proofs.tables.ClockTables.{OfTask, ExactClocks}
use Rattle.theory.proofs.acceptance.Keeping.{is_by_lem}
use Rattle.theory.proofs.acceptance.ControlTable.{ExactControl}
use Rattle.theory.proofs.acceptance.Standings.{gave_same}
use Rattle.theory.proofs.skipping.Learnt.{Had, gave, Learnt}

-- Joining a row that is nowhere above the other

-- changes nothing
pub join_below : (w to from : ℕ) (b : List ℕ) → ((c : ℕ) → c < w → cell w b from c ≤ cell w b to c) → b ≡ join_row max w to from b
unfolding join_row turns
join_below w to from b below = sym (steps w (omega arith))
  where
    greater : (x y : ℕ) → y ≤ x → max x y ≡ x
    greater x y h = omega arith

    steps : (n : ℕ) → n ≤ w → turns n (join_cell max w to from) b ≡ b
    steps zero h = refl
    steps (suc n) h = rw (steps n (omega arith), greater (cell w b to n) (cell w b from n) (below n h)) (set-get_or b (to * w + n) 0)

-- so that an act which acquires it is as one that acquires nothing
flow_below : (w : ℕ) (asked : Bool) (acquired released task : ℕ) (b : List ℕ) → ((c : ℕ) → c < w → cell w b acquired c ≤ cell w b task c) →
    flow max w asked task released task b ≡ flow max w asked acquired released task b
unfolding flow
flow_below w asked acquired released task b below = rw (← join_self same_max w task b, ← join_below w task acquired b below)

-- What the last giver or the holder knows

module _ {w : Filling} {es : List Event} {b : List ℕ} (x : ExactClocks w es b) where
  -- no clock is ahead of the records
  clock_bound : (m : Node) → InRange m → (u : ℕ) → u < tasks → cell tasks b (row m) u ≤ length es
  clock_bound m r u hu = decided (at_most (cell tasks b (row m) u) (length es))
    where
      decided : {p : Bool} → Reflects (cell tasks b (row m) u ≤ length es) p → cell tasks b (row m) u ≤ length es
      decided (right h) = h
      decided (wrong f) =
          let c = ((x.column u (length es) hu).cells m r).0 (record { knows = omega arith }) in
          let h = c.recent in
          absurd (omega (arith, h, occurs_short c.occurs))

  module _ (l : Learnt es) {s t : ℕ} (had : Had es s t) (hs : s < semaphores) (ht : t < tasks) where
    -- the semaphore's clock is nowhere above its
    clock_below : (u : ℕ) → u < tasks → cell tasks b (semaphore_row s) u ≤ cell tasks b t u
    clock_below u hu = decided (at_most (cell tasks b (semaphore_row s) u) (cell tasks b t u))
      where
        onward : {i : ℕ} → Came w (OfTask u) es i (semaphore s) → Came w (OfTask u) es i (due t)
        onward c = record { j = c.j; e = c.e; after = c.after; recent = c.recent; occurs = c.occurs; chosen = c.chosen; reach = l.learnt w had c.occurs c.reach }

        decided : {p : Bool} → Reflects (cell tasks b (semaphore_row s) u ≤ cell tasks b t u) p → cell tasks b (semaphore_row s) u ≤ cell tasks b t u
        decided (right h) = h
        decided (wrong f) =
            let c = ((x.column u (cell tasks b t u) hu).cells (semaphore s) (semaphore_in hs)).0 (record { knows = omega arith }) in
            let h = (((x.column u (cell tasks b t u) hu).cells (due t) (due_in ht)).1 (onward c)).knows in
            absurd (omega (arith, h))

    module _ {number : ℕ} (numbered : number ≡ suc (length es)) where
      -- nor is it after the act's own entry
      own_below : (u : ℕ) → u < tasks → cell tasks (clock_own t number b) (semaphore_row s) u ≤ cell tasks (clock_own t number b) t u
      own_below u hu = decided (equal u t)
        where
          there : cell tasks (clock_own t number b) (semaphore_row s) u ≡ cell tasks b (semaphore_row s) u
          there = clock_own_other b t number (semaphore_row s) u ht hu (omega arith) (λ e. omega (arith, e.0))

          decided : {p : Bool} → Reflects (u ≡ t) p → cell tasks (clock_own t number b) (semaphore_row s) u ≤ cell tasks (clock_own t number b) t u
          decided (right e) =
              let own : cell tasks (clock_own t number b) t u ≡ number = rw e (clock_own_same x.sized t number ht) in
              omega (arith, there, own, clock_bound (semaphore s) (semaphore_in hs) u hu)
          decided (wrong d) =
              let same = clock_own_other b t number t u ht hu (omega arith) (λ e. d e.1) in
              omega (arith, there, same, clock_below u hu)

      pub take_as_miss : next_clocks w (kind Op.miss) t s number b ≡ next_clocks w (kind Op.take) t s number b
      take_as_miss = flow_below tasks (fills w) (semaphore_row s) t t (clock_own t number b) own_below

-- The kind that moves the clocks

-- a take that the table says to be skipped is such, so that the clocks are the same if they are moved by the record's own kind
module _ {w : Filling} {es : List Event} {control b : List ℕ} (c : ExactControl es control) (l : Learnt es) (x : ExactClocks w es b) where
  pub skip_same : (k t n : ℕ) → Fitting k t n → next_clocks w (clock_kind control k t n) t n (next_number control) b ≡ next_clocks w k t n (next_number control) b
  skip_same k t n f = decided (equal k (kind Op.take))
    where
      number : next_number control ≡ suc (length es)
      number = let e = c.count in omega arith

      moved : ℕ → List ℕ
      moved m = next_clocks w m t n (next_number control) b

      by_giver : k ≡ kind Op.take → n < semaphores → (g : Bool) → (under_in control && gave_in control n t) ≡ g → moved (cond g (kind Op.miss) k) ≡ moved k
      by_giver e h true q = take_as_miss x l (gave (is_by_lem (giver es n) t (sym (gave_same c n t h) ∙ and_elim_right (under_in control) (gave_in control n t) q))) h f.task_fits number ∙ sym (ap moved e)
      by_giver e h false q = refl

      decided : {a : Bool} → Reflects (k ≡ kind Op.take) a → moved (cond (a && (under_in control && gave_in control n t)) (kind Op.miss) k) ≡ moved k
      decided (right e) = by_giver e (subst (λ (k : ℕ). n < series_size k) e f.on_fits) (under_in control && gave_in control n t) refl
      decided (wrong _) = refl
