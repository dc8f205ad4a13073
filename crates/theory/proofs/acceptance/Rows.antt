-- The refusal table: which of its rows can apply to an act and to a mark, and what is known of a record that passes them all. Assumes nothing.
use mathlib.Core.Path.{◌≡◌, refl, sym, ◌∙◌}
use mathlib.Core.Bool.{Bool, true, false, cond, not, ◌&&◌, ◌||◌, or-false, and-false}
use mathlib.Mathlib.Data.Bool.Basic.{and_elim_left, and_elim_right, or-eq-false-eq-eq-false-and-eq-false}
use mathlib.Core.Logic.{◌≢◌}
use mathlib.Core.List.{List, [], ◌∷◌}
use Prim.Native.Nat.{ℕ, zero, suc, ◌^◌, ◌≤◌, ◌<◌, zero-le}
use native.Mathlib.Omega.{arith}
use lib.Dec.{leb, ltb, eqb}
use lib.ListN.{length}
use borrow.Author.Tests.{lt-leb, ltb-true, leb-true, leb-false, ne_eqb, eqb-false, not-false}
use Rattle.theory.specs.declared.record.Record.{Record}
use Rattle.theory.specs.order.Limits.{tasks, records}
use Rattle.theory.specs.basics.Turns.{turns, any_below}
use Rattle.theory.specs.order.Recording.{take, give, start, join, owned, kind, kinds, loss_mark, series_size}
use Rattle.theory.specs.fillings.Completion.{bit, names}
use Rattle.theory.specs.acceptance.Table.{has_kind, Standing, Row, ◌when◌, rows, last_row, row_numbers, is_one_of, OfRow, first_row, standing_refusal, Fitting}
use Rattle.theory.proofs.basics.Reflects.{Reflects, right, wrong, equal}

-- Rows that do not apply

-- where `any_below` fails, the test fails at each number below n
pub none_below : (n : ℕ) (p : ℕ → Bool) → any_below n p ≡ false → (k : ℕ) → k < n → p k ≡ false
unfolding turns
none_below zero p e k h = absurd (omega arith)
none_below (suc n) p e k h = let (f, g) = (or-eq-false-eq-eq-false-and-eq-false (any_below n p) (p n)).0 e in decided g (none_below n p f k) (equal k n)
  where
    decided : {b : Bool} → p n ≡ false → (k < n → p k ≡ false) → Reflects (k ≡ n) b → p k ≡ false
    decided g f (right q) = rw q g
    decided g f (wrong d) = f (omega arith)

-- no row of a list applies
abbrev pub Fail : List Row → Type 0
Fail [] = Unit
Fail (x ∷ xs) = (x.applies ≡ false) × Fail xs

-- every row has a number from 1 to n: a test that computes, whatever the rows ask
abbrev pub numbered : ℕ → List Row → Bool
numbered n [] = true
numbered n (x ∷ xs) = ltb 0 x.number && (leb x.number n && numbered n xs)

module _ (n : ℕ) (x : Row) (xs : List Row) (h : numbered n (x ∷ xs) ≡ true) where
  row_from_1 : 0 < x.number
  row_from_1 = ltb-true 0 x.number (and_elim_left (ltb 0 x.number) _ h)

  row_to_n : x.number ≤ n
  row_to_n = leb-true x.number n (and_elim_left (leb x.number n) _ (and_elim_right (ltb 0 x.number) _ h))

  rows_after : numbered n xs ≡ true
  rows_after = and_elim_right (leb x.number n) _ (and_elim_right (ltb 0 x.number) _ h)

-- where no row is the first to apply, none applies
pub none_applies : (n : ℕ) (xs : List Row) → numbered n xs ≡ true → first_row xs ≡ 0 → Fail xs
none_applies n [] h e = tt
none_applies n (x ∷ xs) h e = decided x.applies refl (none_applies n xs (rows_after n x xs h)) e
  where
    decided : (b : Bool) → x.applies ≡ b → (first_row xs ≡ 0 → Fail xs) → cond b x.number (first_row xs) ≡ 0 → Fail (x ∷ xs)
    decided true q f e = let p = row_from_1 n x xs h in absurd (omega arith)
    decided false q f e = (q, f e)

row_bound : (n : ℕ) (xs : List Row) → numbered n xs ≡ true → first_row xs ≤ n
row_bound n [] h = zero-le
row_bound n (x ∷ xs) h = decided x.applies (row_bound n xs (rows_after n x xs h))
  where
    decided : (b : Bool) → first_row xs ≤ n → cond b x.number (first_row xs) ≤ n
    decided true l = row_to_n n x xs h
    decided false l = l

pub refusal_bound : (s : Standing) (r : Record) → standing_refusal s r ≤ last_row
unfolding standing_refusal
refusal_bound s r = row_bound last_row (rows s r) refl

-- every row has one of the table's numbers: a test that computes likewise
abbrev listed : List Row → Bool
listed [] = true
listed (x ∷ xs) = is_one_of row_numbers x.number && listed xs

first_listed : (xs : List Row) → listed xs ≡ true → 1 ≤ first_row xs → OfRow (first_row xs)
first_listed [] h l = absurd (omega arith)
first_listed (x ∷ xs) h l = decided x.applies (first_listed xs (and_elim_right (is_one_of row_numbers x.number) _ h)) l
  where
    decided : (b : Bool) → (1 ≤ first_row xs → OfRow (first_row xs)) → 1 ≤ cond b x.number (first_row xs) → OfRow (cond b x.number (first_row xs))
    decided true f l = and_elim_left (is_one_of row_numbers x.number) _ h
    decided false f l = f l

-- a refusal's number is that of a row
pub refusal_of_row : (s : Standing) (r : Record) → 1 ≤ standing_refusal s r → OfRow (standing_refusal s r)
unfolding standing_refusal
refusal_of_row s r = first_listed (rows s r) refl

-- The rows of acts and of marks

-- the kind is an op's
pub record OfAct (r : Record) : Type 0 where
  pub known : r.kind < length kinds
  pub no_mark : r.kind ≢ loss_mark

module _ (s : Standing) (r : Record) where
  -- the rows from the second as they are for an act: rows 4 and 15 never apply to one
  abbrev pub act_rows : List Row
  act_rows =
      (2 when leb tasks r.task)
      ∷ (3 when leb (series_size r.kind) r.on)
      ∷ (4 when false)
      ∷ (5 when leb records s.count)
      ∷ (6 when not (s.live r.task))
      ∷ (7 when (has_kind r start && not (s.unseen r.on)))
      ∷ (8 when (has_kind r join && eqb r.on r.task))
      ∷ (9 when (has_kind r join && not (s.live r.on)))
      ∷ (14 when (has_kind r owned && s.profile))
      ∷ (15 when false)
      ∷ (16 when (s.profile && ((has_kind r take && s.held r.on) || (has_kind r give && not (s.holds r.on r.task)))))
      ∷ []

  -- the rows from the fourth as they are for a mark: rows 6 to 8, 14 and 16 never apply to one
  abbrev pub mark_rows : List Row
  mark_rows =
      (4 when (eqb r.on 0 || leb (2 ^ tasks) r.on))
      ∷ (5 when leb records s.count)
      ∷ (6 when false)
      ∷ (7 when false)
      ∷ (8 when false)
      ∷ (9 when any_below tasks (λ t. names r.on t && not (s.live t)))
      ∷ (14 when false)
      ∷ (15 when s.profile)
      ∷ (16 when false)
      ∷ []

  pub act_rows_lem : OfAct r → standing_refusal s r ≡ first_row act_rows
  unfolding standing_refusal
  act_rows_lem a = simp (lt-leb (length kinds) r.kind a.known, ne_eqb r.kind loss_mark a.no_mark, or-false)

  pub mark_rows_lem : r.kind ≡ loss_mark → standing_refusal s r ≡ first_row mark_rows
  unfolding standing_refusal
  mark_rows_lem e = simp (e, and-false)

-- What is known of a record that no row refuses

pub record ActAllowed (s : Standing) (k task on : ℕ) : Type 0 where
  pub fits : Fitting k task on
  pub live : s.live task ≡ true
  pub starts_unseen : k ≡ kind start → s.unseen on ≡ true
  pub joins_other : k ≡ kind join → on ≢ task
  pub joins_live : k ≡ kind join → s.live on ≡ true
  pub owned_once : k ≡ kind owned → s.profile ≡ false
  pub takes_free : s.profile ≡ true → k ≡ kind take → s.held on ≡ false
  pub gives_own : s.profile ≡ true → k ≡ kind give → s.holds on task ≡ true

pub record MarkAllowed (s : Standing) (mask : ℕ) : Type 0 where
  pub some : 0 < mask
  pub fits : mask < 2 ^ tasks
  pub live : (t : ℕ) → names mask t ≡ true → s.live t ≡ true
  pub no_profile : s.profile ≡ false

pub record Allowed (s : Standing) (r : Record) : Type 0 where
  pub known : r.kind < length kinds
  pub room : s.count < records
  pub act : r.kind ≢ loss_mark → ActAllowed s r.kind r.task r.on
  pub mark : r.kind ≡ loss_mark → MarkAllowed s r.on

module _ (s : Standing) (r : Record) (e : standing_refusal s r ≡ 0) where
  all_fail : Fail (rows s r)
  unfolding standing_refusal
  all_fail = none_applies last_row (rows s r) refl e

  known : r.kind < length kinds
  known = leb-false (length kinds) r.kind all_fail.0

  act : r.kind ≢ loss_mark → ActAllowed s r.kind r.task r.on
  act n = by_rows (none_applies last_row (act_rows s r) refl (sym (act_rows_lem s r (record { known = known; no_mark = n })) ∙ e))
    where
      by_rows : Fail (act_rows s r) → ActAllowed s r.kind r.task r.on
      by_rows (t, (o, (_, (_, (a, (u, (j, (d, (w, (_, (h, _))))))))))) =
          record {
            fits = record { task_fits = leb-false tasks r.task t; on_fits = leb-false (series_size r.kind) r.on o };
            live = not-false (s.live r.task) a;
            starts_unseen = λ q. not-false (s.unseen r.on) (rw q at u);
            joins_other = λ q. eqb-false r.on r.task (rw q at j);
            joins_live = λ q. not-false (s.live r.on) (rw q at d);
            owned_once = λ q. rw q at w;
            takes_free = λ p q. rw (or-false (s.held r.on)) at (rw (p, q) at h);
            gives_own = λ p q. not-false (s.holds r.on r.task) (rw (p, q) at h);
          }

  mark : r.kind ≡ loss_mark → MarkAllowed s r.on
  mark q = by_rows (none_applies last_row (mark_rows s r) refl (sym (mark_rows_lem s r q) ∙ e))
    where
      by_rows : Fail (mark_rows s r) → MarkAllowed s r.on
      by_rows (m, (_, (_, (_, (_, (d, (_, (p, _)))))))) =
          let (z, h) = (or-eq-false-eq-eq-false-and-eq-false (eqb r.on 0) (leb (2 ^ tasks) r.on)).0 m in
          let n = eqb-false r.on 0 z in
          record {
            some = omega arith;
            fits = leb-false (2 ^ tasks) r.on h;
            live = λ t x.
                let task = ltb-true t tasks (and_elim_left (ltb t tasks) (bit r.on t) x) in
                not-false (s.live t) (rw x at (none_below tasks (λ t. names r.on t && not (s.live t)) d t task));
            no_profile = p;
          }

  pub allowed : Allowed s r
  allowed = record { known = known; room = leb-false records s.count all_fail.1.1.1.1.0; act = act; mark = mark }
