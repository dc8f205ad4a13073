-- Accesses, and takes, gives, looks and sets outside the profile: only the rows that every act has can refuse one, and it moves nothing in the control
-- table but the count. Assumes nothing.
use mathlib.Core.Path.{◌≡◌, refl, sym, ◌∙◌}
use mathlib.Core.Bool.{Bool, true, false, cond, not, ◌||◌, and-false}
use mathlib.Core.List.{List, [], ◌∷◌}
use Prim.Native.Nat.{ℕ, ◌<◌}
use native.Mathlib.Omega.{arith}
use borrow.Author.Tests.{eqb-false, leb-false, ltb-true}
use lib.Dec.{leb, ltb, lit<}
use lib.ListN.{length, drop}
use Rattle.theory.specs.declared.record.Record.{Record}
use Rattle.theory.specs.order.Limits.{tasks, records}
use Rattle.theory.specs.basics.Turns.{turns, any_below}
use Rattle.theory.specs.order.Recording.{Op, take, give, look, set, start, join, owned, kind, kinds, loss_mark, accesses, series_size}
use Rattle.theory.specs.acceptance.Table.{Standing, Row, ◌when◌, first_row}
use Rattle.theory.specs.acceptance.Control.{under_in, control_standing, control_refusal, counted, control_after}
use Rattle.theory.specs.feeding.Step.{record_of, clock_kind}
use Rattle.theory.proofs.order.Ops.{no_mark}
use Rattle.theory.proofs.acceptance.Rows.{OfAct, act_rows, act_rows_lem}
use Rattle.theory.proofs.order.Numbered.{each_access_kind, no_access_kind}
use Rattle.theory.proofs.tables.Ranges.{access_acts}
use Rattle.theory.proofs.tables.HandOver.{HandOverKind, a_take, a_give, a_look, a_set}

-- the rows that every act has
abbrev pub common_rows : Standing → ℕ → Bool → List Row
common_rows s task outside = (2 when leb tasks task) ∷ (3 when outside) ∷ (5 when leb records s.count) ∷ (6 when not (s.live task)) ∷ []

-- where none applies there is room for a record
pub common_room : (s : Standing) (task : ℕ) (outside : Bool) {n : ℕ} → n ≡ first_row (common_rows s task outside) → n ≡ 0 → s.count < records
common_room s task outside {n} e z = of (leb tasks task) outside (leb records s.count) (s.live task) e (leb-false records s.count)
  where
    of : (a b c d : Bool) → n ≡ cond a 2 (cond b 3 (cond c 5 (cond (not d) 6 0))) → (c ≡ false → s.count < records) → s.count < records
    of true b c d q h = absurd (omega arith)
    of false true c d q h = absurd (omega arith)
    of false false true d q h = absurd (omega arith)
    of false false false d q h = h refl

-- they stand first among the rows of an act
module _ (s : Standing) (r : Record) {n : ℕ} (e : n ≡ first_row (common_rows s r.task (leb (series_size r.kind) r.on))) where
  -- the first of them that applies is the first row
  pub common_stops : ¬ (n ≡ 0) → first_row (act_rows s r) ≡ n
  common_stops h = of (leb tasks r.task) (leb (series_size r.kind) r.on) (leb records s.count) (s.live r.task) e
    where
      of : (a b c d : Bool) → n ≡ cond a 2 (cond b 3 (cond c 5 (cond (not d) 6 0))) →
          cond a 2 (cond b 3 (cond c 5 (cond (not d) 6 (first_row (drop 5 (act_rows s r)))))) ≡ n
      of true b c d q = sym q
      of false true c d q = sym q
      of false false true d q = sym q
      of false false false false q = sym q
      of false false false true q = absurd (h q)

  -- where none applies, those after them decide, and the numbers are in their ranges
  pub common_passes : n ≡ 0 → (first_row (act_rows s r) ≡ first_row (drop 5 (act_rows s r))) × (r.task < tasks) × (r.on < series_size r.kind)
  common_passes h =
      of (leb tasks r.task) (leb (series_size r.kind) r.on) (leb records s.count) (s.live r.task) e (leb-false tasks r.task) (leb-false (series_size r.kind) r.on)
    where
      of : (a b c d : Bool) → n ≡ cond a 2 (cond b 3 (cond c 5 (cond (not d) 6 0))) → (a ≡ false → r.task < tasks) → (b ≡ false → r.on < series_size r.kind) →
          (cond a 2 (cond b 3 (cond c 5 (cond (not d) 6 (first_row (drop 5 (act_rows s r)))))) ≡ first_row (drop 5 (act_rows s r))) × (r.task < tasks) × (r.on < series_size r.kind)
      of true b c d q _ _ = absurd (omega arith)
      of false true c d q _ _ = absurd (omega arith)
      of false false true d q _ _ = absurd (omega arith)
      of false false false false q _ _ = absurd (omega arith)
      of false false false true q t o = (refl, t refl, o refl)

-- an access is of a known kind
known_tried : any_below (length kinds) (λ k. not (not (accesses k) || ltb k (length kinds))) ≡ false
unfolding turns
known_tried = refl

access_known : (k : ℕ) → accesses k ≡ true → k < length kinds
access_known k e = ltb-true k (length kinds) (each_access_kind (λ k. ltb k (length kinds)) known_tried k e)

pub record Plainly (control : List ℕ) (k task on : ℕ) : Type 0 where
  pub refusal : control_refusal control (record_of k task on) ≡ first_row (common_rows (control_standing control) task (leb (series_size k) on))
  pub noted : control_after k task on control ≡ counted control
  pub unskipped : clock_kind control k task on ≡ k

module _ (control : List ℕ) (task on : ℕ) where
  -- the rows that every act has, where those after them do not apply
  common : (k : ℕ) → OfAct (record_of k task on) → first_row (drop 5 (act_rows (control_standing control) (record_of k task on))) ≡ 0 →
      control_refusal control (record_of k task on) ≡ first_row (common_rows (control_standing control) task (leb (series_size k) on))
  common k h e = act_rows_lem (control_standing control) (record_of k task on) h ∙ rw e

  op_acts : (o : Op) → kind o < length kinds → OfAct (record_of (kind o) task on)
  op_acts o h = record { known = h; no_mark = eqb-false (kind o) loss_mark (no_mark o) }

  pub plain_access : (k : ℕ) → accesses k ≡ true → Plainly control k task on
  plain_access k e =
      let not_start = no_access_kind start k refl e in
      let not_join = no_access_kind join k refl e in
      let not_take = no_access_kind take k refl e in
      let not_give = no_access_kind give k refl e in
      let not_owned = no_access_kind owned k refl e in
      record {
        refusal = common k (record { known = access_known k e; no_mark = access_acts k e }) (rw (not_start, not_join, not_owned, not_take, not_give, and-false (under_in control)));
        noted = rw (not_start, not_join, not_take, not_give, not_owned);
        unskipped = rw not_take;
      }

  pub plain_hand_over : {k : ℕ} → HandOverKind k → under_in control ≡ false → Plainly control k task on
  plain_hand_over a_take u = record { refusal = common (kind take) (op_acts take (lit< tt)) (rw u); noted = rw u; unskipped = rw u }
  plain_hand_over a_give u = record { refusal = common (kind give) (op_acts give (lit< tt)) (rw u); noted = rw u; unskipped = refl }
  plain_hand_over a_look u = record { refusal = common (kind look) (op_acts look (lit< tt)) (rw u); noted = refl; unskipped = refl }
  plain_hand_over a_set u = record { refusal = common (kind set) (op_acts set (lit< tt)) (rw u); noted = refl; unskipped = refl }
