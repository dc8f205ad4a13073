-- The ranges that acceptance gives: rows and slots of an act are in their tables. Assumes nothing.
use mathlib.Core.Path.{◌≡◌, refl, sym, ◌∙◌, ap, subst}
use mathlib.Core.Bool.{Bool, true, false, cond, ◌&&◌, true≢false}
use mathlib.Core.List.{List}
use Prim.Native.Nat.{ℕ, ◌≤◌, ◌<◌}
use mathlib.Core.Logic.{◌≢◌}
use mathlib.Mathlib.Data.Bool.Basic.{and_elim_left, or-eq-false-eq-eq-false-and-eq-false}
use native.Mathlib.Omega.{arith}
use lib.Dec.{T, ltb, eqb}
use lib.ListN.{length}
use Rattle.theory.specs.order.Limits.{tasks, variables}
use Rattle.theory.specs.order.Recording.{Op, take, give, look, set, start, join, kind, is_access, loss_mark, Kind, of_op, of_mark, kinds, numbered_kind, kind_accesses, accesses, size_of, series_size}
use Rattle.theory.specs.order.Path.{rule}
use Rattle.theory.specs.history.History.{kind_clashes}
use Rattle.theory.specs.acceptance.Table.{Fitting, Proper}
use Rattle.theory.specs.tables.Rows.{cell, acted_row, joins_acted, acquired_row, released_row, onward, hub, table_rows}
use Rattle.theory.proofs.basics.Reflects.{Reflects, right, wrong, equal, at_most}
use Rattle.theory.proofs.order.Ops.{Role, a_take, a_give, a_look, a_set, a_start, a_join, plain, role, op_of_lem, access_kind, access_series, series_op}
use Rattle.theory.proofs.order.Numbered.{kind_above}
use Rattle.theory.proofs.tables.Rows.{Same}
use Rattle.theory.proofs.tables.Acts.{flow_alone}
use Rattle.theory.proofs.tables.HandOver.{passes_on}

-- a row that is chosen by a test is in the table if each choice is
chosen : (b : Bool) (x y : ℕ) → (b ≡ true → x < hub) → y < hub → cond b x y < hub
chosen true x y h l = h refl
chosen false x y h l = l

-- one that is chosen by the kind
of_kind : (k j x y : ℕ) → (k ≡ j → x < hub) → y < hub → cond (eqb k j) x y < hub
of_kind k j x y h l = decided (equal k j)
  where
    decided : {b : Bool} → Reflects (k ≡ j) b → cond b x y < hub
    decided (right e) = h e
    decided (wrong n) = l

-- `on` of an act whose kind is known
on_below : {k t n : ℕ} (j : ℕ) → Fitting k t n → k ≡ j → n < series_size j
on_below {n = n} j f e = subst (λ (i : ℕ). n < series_size i) e f.on_fits

-- the rows that an act acquires and releases to are of tasks and objects
pub acquired_fits : {k t n : ℕ} {joins : Bool} → Fitting k t n → (joins ≡ true → k ≡ kind join) → acquired_row k t n joins < hub
acquired_fits {k} {t} {n} {joins} f j =
    let h = f.task_fits in
    of_kind k (kind take) _ _ (λ e. let l = on_below (kind take) f e in omega arith)
    (of_kind k (kind look) _ _ (λ e. let l = on_below (kind look) f e in omega arith) (chosen joins n t (λ e. let l = on_below (kind join) f (j e) in omega arith) (omega arith)))

pub released_fits : {k t n : ℕ} → Fitting k t n → released_row k t n < hub
released_fits {k} {t} {n} f =
    let h = f.task_fits in
    of_kind k (kind give) _ _ (λ e. let l = on_below (kind give) f e in omega arith)
    (of_kind k (kind set) _ _ (λ e. let l = on_below (kind set) f e in omega arith) (of_kind k (kind start) _ _ (λ e. let l = on_below (kind start) f e in omega arith) (omega arith)))

-- so they are in the table
pub row_fits : {x y : ℕ} → x ≡ y → y < hub → x < table_rows
row_fits e h = omega arith

-- an act that joins a task that has acted is a join
pub joins_kind : (w : ℕ) (b : List ℕ) (k on : ℕ) → joins_acted w b k on ≡ true → k ≡ kind join
joins_kind w b k on e = decided (equal k (kind join)) e
  where
    decided : {c : Bool} → Reflects (k ≡ kind join) c → (c && ltb 0 (cell w b acted_row on)) ≡ true → k ≡ kind join
    decided (right q) e = q
    decided (wrong n) e = absurd (true≢false (sym e))

-- the op of an access
pub access_of : (k : ℕ) → accesses k ≡ true → (o : Op) × (k ≡ kind o) × T (is_access o)
access_of k e = let (o, q) = op_of_lem k known no_mark in (o, q, subst T (sym (sym (access_kind o) ∙ (ap accesses (sym q) ∙ e))) tt)
  where
    known : k < length kinds
    known = decided (at_most (length kinds) k)
      where
        decided : {b : Bool} → Reflects (length kinds ≤ k) b → k < length kinds
        decided (right h) = absurd (true≢false (sym e ∙ ap kind_accesses (kind_above k h)))
        decided (wrong n) = omega arith

    no_mark : k ≢ loss_mark
    no_mark q = true≢false (sym e ∙ ap accesses q)

-- an access is no mark
pub access_acts : (k : ℕ) → accesses k ≡ true → k ≢ loss_mark
access_acts k e q = true≢false (sym e ∙ ap accesses q)

-- an act that passes nothing on acquires from and releases to no other row
kept_alone : (w : ℕ) (b : List ℕ) (k t n : ℕ) → passes_on k ≡ false → (acquired_row k t n (joins_acted w b k n) ≡ t) × (released_row k t n ≡ t)
kept_alone w b k t n e =
    let (e₁, no_join) = (or-eq-false-eq-eq-false-and-eq-false _ (eqb k (kind join))).0 e in
    let (e₂, no_start) = (or-eq-false-eq-eq-false-and-eq-false _ (eqb k (kind start))).0 e₁ in
    let (e₃, no-set) = (or-eq-false-eq-eq-false-and-eq-false _ (eqb k (kind set))).0 e₂ in
    let (e₄, no-look) = (or-eq-false-eq-eq-false-and-eq-false _ (eqb k (kind look))).0 e₃ in
    let (no-take, no-give) = (or-eq-false-eq-eq-false-and-eq-false (eqb k (kind take)) (eqb k (kind give))).0 e₄ in
    (rw (no-take, no-look, no_join), rw (no-give, no-set, no_start))

-- so it leaves clocks and sets as they are
pub kept_onward : {j : ℕ → ℕ → ℕ} → Same j → (w : ℕ) (asked : Bool) (k t n : ℕ) (b : List ℕ) → passes_on k ≡ false → t < tasks → b ≡ onward j w asked k t n b
kept_onward s w asked k t n b h l = let a = kept_alone w b k t n h in rw (a.0, a.1) (flow_alone s w asked t b l)

-- an access passes nothing on
pub access_keeps : (k : ℕ) → accesses k ≡ true → passes_on k ≡ false
access_keeps k e = let (o, q, a) = access_of k e in ap passes_on q ∙ by_role (role o) a
  where
    by_role : {o : Op} → Role o → T (is_access o) → passes_on (kind o) ≡ false
    by_role (plain x) a = rw (x.not_take, x.not_give, x.not_look, x.not_set, x.not_start, x.not_join)
    by_role a_take a = absurd a
    by_role a_give a = absurd a
    by_role a_look a = absurd a
    by_role a_set a = absurd a
    by_role a_start a = absurd a
    by_role a_join a = absurd a

pub access_onward : {j : ℕ → ℕ → ℕ} → Same j → (w : ℕ) (asked : Bool) (k t n : ℕ) (b : List ℕ) → accesses k ≡ true → t < tasks → b ≡ onward j w asked k t n b
access_onward s w asked k t n b h l = kept_onward s w asked k t n b (access_keeps k h) l

-- `on` of an access is a variable
pub access_size : (k : ℕ) → accesses k ≡ true → series_size k ≡ variables
access_size k e = let (o, q, a) = access_of k e in ap series_size q ∙ series_op o ∙ ap size_of (access_series o a)

pub access_fits : {k t n : ℕ} → Fitting k t n → accesses k ≡ true → n < variables
access_fits {k} {n = n} f e = subst (λ (i : ℕ). n < i) (access_size k e) f.on_fits

-- the ranges of a proper access
pub access_proper : {k t n : ℕ} → Proper k t n → accesses k ≡ true → (t < tasks) × (n < variables)
access_proper {k} p e = let f = p.act_fits (access_acts k e) in (f.task_fits, access_fits f e)

-- what clashes with something is an access
pub clash_kind_access : (k : ℕ) (p : Op) → true ≡ kind_clashes (numbered_kind k) p → accesses k ≡ true
clash_kind_access k p e = of (numbered_kind k) e
  where
    of : (y : Kind) → true ≡ kind_clashes y p → kind_accesses y ≡ true
    of (of_op o) e = and_elim_left (is_access o) (is_access p && rule o p) (sym e)
    of of_mark e = absurd (true≢false e)
