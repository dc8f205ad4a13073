-- What the code of the lazy reckoning counts on: it adds numbers that fit, and a question may be that of a clipped record. Assumes nothing.
use mathlib.Core.Path.{◌≡◌, refl, sym, ◌∙◌, ap}
use mathlib.Core.Bool.{Bool, true, false, cond, not, ◌&&◌, ◌||◌, true≢false}
use mathlib.Core.List.{List}
use Prim.Native.Nat.{ℕ, zero, suc, ◌+◌, ◌-◌, ◌≤◌, ◌<◌}
use native.Mathlib.Omega.{arith}
use borrow.Author.Tests.{le-ltb}
use lib.Dec.{eqb}
use lib.ListN.{length, get_or, set, length-set}
use lib.Seq.{get_or-set_same}
use Rattle.theory.specs.declared.record.Record.{Record}
use Rattle.theory.specs.basics.Turns.{turns}
use Rattle.theory.specs.order.Recording.{read, write, join, fresh, kind, kinds, numbered_kind, kind_accesses, accesses, loss_mark}
use Rattle.theory.specs.fillings.Completion.{bit}
use Rattle.theory.specs.acceptance.Table.{Proper}
use Rattle.theory.specs.acceptance.Control.{count_at, count_in, updated, control_after}
use Rattle.theory.specs.history.History.{asker, kind_clashes}
use Rattle.theory.specs.tables.Reckonings.{word_bits}
use Rattle.requests.specs.lazy.Fold.{by_end, by_write, asker_on, walkable, Lazy, arrived_now, keep_on, accessed, walked_over, noted, acted, recorded, question}
use Rattle.theory.specs.feeding.Step.{record_of}
use Rattle.theory.proofs.basics.Reflects.{Reflects, right, wrong, equal, at_most}
use Rattle.theory.proofs.acceptance.Updated.{rewritten_length, rewritten_count, updated_rewrites}
use Rattle.requests.proofs.following.Listed.{clipped_kind, clipped, clipped_known}
use Rattle.theory.proofs.order.Numbered.{kind_above}

-- Counts

-- where a word is as it was, nothing has come to it
pub no_arrival : (word walked : ℕ) (counts : List ℕ) → arrived_now word word walked counts ≡ counts
unfolding arrived_now turns
no_arrival word walked counts = none word_bits
  where
    never : (b : Bool) (x y : List ℕ) → cond (b && not b) x y ≡ y
    never true x y = refl
    never false x y = refl

    none : (n : ℕ) → turns n (λ c l. cond (bit word c && not (bit word c)) (set l c (walked - get_or l c 0)) l) counts ≡ counts
    none zero = refl
    none (suc n) = never (bit word n) _ _ ∙ none n

-- Kinds

-- a test that makes no difference
pub either_same : (b : Bool) (s : Lazy) → s ≡ cond b s s
either_same true s = refl
either_same false s = refl

-- what is a join and more is a join
pub join_kind : (k : ℕ) (b : Bool) → (eqb k (kind join) && b) ≡ true → k ≡ kind join
join_kind k b e = decided (equal k (kind join)) e
  where
    decided : {a : Bool} → Reflects (k ≡ kind join) a → (a && b) ≡ true → k ≡ kind join
    decided (right q) e = q
    decided (wrong n) e = absurd (true≢false (sym e))

-- How many records were walked

record AtMost (n : ℕ) (s : Lazy) : Type 0 where
  at_most : s.walk.walked ≤ n

-- whichever way a test goes
either_way : (b : Bool) {n : ℕ} {x y : Lazy} → AtMost n x → AtMost n y → AtMost n (cond b x y)
either_way true h l = h
either_way false h l = l

module _ (q : Record) (k t on n : ℕ) where
  keep_walked : (side : ℕ) {s : Lazy} → AtMost n s → AtMost n (keep_on q k t side s)
  unfolding keep_on
  keep_walked side {s} h = either_way (kind_clashes (numbered_kind k) (asker (asker_on q side))) (record { at_most = h.at_most }) h

  access_walked : {s : Lazy} → AtMost n s → AtMost n (accessed q k t s)
  unfolding accessed
  access_walked h =
      either_way (eqb t q.task) (either_way (eqb k (kind write)) (record { at_most = h.at_most }) h) (keep_walked by_write (keep_walked by_end h))

  act_walked : (s : Lazy) → s.walk.walked + 1 ≤ n → AtMost n (acted q k t on s)
  unfolding acted walked_over
  act_walked s h =
      let same : AtMost n (noted t s) = record { at_most = omega arith } in
      let fresh-or = either_way (eqb k (kind fresh)) (record { at_most = same.at_most }) (access_walked same) in
      either_way (walkable k) (record { at_most = h }) (either_way (accesses k || eqb k (kind fresh)) (either_way (eqb on q.on) fresh-or same) same)

-- a record adds one at most
walked_more : (q r : Record) (s : Lazy) → AtMost (s.walk.walked + 1) (recorded q r s)
walked_more q r s = either_way (eqb r.kind loss_mark) (record { at_most = omega arith }) (act_walked q r.kind r.task r.on (s.walk.walked + 1) s (omega arith))

-- The count of accepted records

-- the control table has the count, and no more records were walked
pub record WithinCount (control : List ℕ) (walked : ℕ) : Type 0 where
  pub size : count_at < length control
  pub room : walked ≤ count_in control

-- a control table in which n records are counted
record Counts (n : ℕ) (control : List ℕ) : Type 0 where
  size : count_at < length control
  count : count_in control ≡ n

count_more : {n : ℕ} {control : List ℕ} {k task on : ℕ} → Counts n control → Proper k task on → Counts (n + 1) (control_after k task on control)
count_more {n} {control} {k} {task} {on} h p =
    let x = updated_rewrites k task on control p in
    let size : count_at < length (updated k task on control) = rw (rewritten_length x) h.size in
    record {
      size = rw (length-set (updated k task on control) count_at (count_in (updated k task on control) + 1)) size;
      count = get_or-set_same (updated k task on control) count_at _ 0 size ∙ rw (rewritten_count x, h.count);
    }

-- so it stays after an accepted record
pub count_within_more : {control : List ℕ} (s : Lazy) (q r : Record) → WithinCount control s.walk.walked → Proper r.kind r.task r.on →
    {after : List ℕ} {t : Lazy} → after ≡ control_after r.kind r.task r.on control → t ≡ recorded q r s → WithinCount after t.walk.walked
count_within_more {control} s q r w n a b =
    let x = count_more {control = control} (record { size = w.size; count = refl }) n in
    rw (a, b) (record { size = x.size; room = omega (arith, w.room, x.count, (walked_more q r s).at_most) })

-- The question

-- the question for what is no access
no_question : (q : Record) → accesses q.kind ≡ false → question q ≡ record_of (kind read) 0 0
no_question q e = rw e

pub question_clipped : (q : Record) → question (clipped q) ≡ question q
question_clipped q = decided (at_most (length kinds) q.kind)
  where
    decided : {b : Bool} → Reflects (length kinds ≤ q.kind) b → question (clipped q) ≡ question q
    decided (right h) =
        let none : clipped_kind q.kind ≡ length kinds = rw (le-ltb q.kind (length kinds) h) in
        no_question (clipped q) (ap accesses none) ∙ sym (no_question q (ap kind_accesses (kind_above q.kind h)))
    decided (wrong n) = ap question (clipped_known q (omega arith))
