-- Accesses as the code meets them: an access has its numbers in their ranges, and what is no access is kept nowhere. Assumes nothing.
use mathlib.Core.Path.{◌≡◌, refl, sym, ◌∙◌, ap, subst}
use mathlib.Core.Bool.{Bool, true, false, cond, not, ◌&&◌, ◌||◌, true≢false}
use mathlib.Mathlib.Data.Bool.Basic.{and_elim_left, and_elim_right}
use mathlib.Core.List.{List, map}
use Prim.Native.Nat.{ℕ, zero, suc, ◌≤◌, ◌<◌}
use native.Mathlib.Omega.{arith}
use borrow.Author.Tests.{eqb-true, ne_eqb, ltb-true, leb-false}
use lib.Dec.{eqb, ltb, leb, lit<}
use lib.ListN.{length, get_or, set}
use Rattle.theory.specs.order.Limits.{tasks, variables}
use Rattle.theory.specs.basics.Turns.{turns, any_below}
use Rattle.theory.specs.order.Recording.{write, fresh, kind, Kind, of_op, kinds, numbered_kind, kind_accesses, accesses, series_size}
use Rattle.theory.specs.order.Path.{rule, clashes}
use Rattle.theory.specs.acceptance.Table.{Fitting}
use Rattle.theory.specs.history.History.{askers, asker, ask_at, kind_clashes, kept_for, slot, under_each, emptied, with_access, last_after}
use Rattle.theory.proofs.basics.Reflects.{Reflects, right, wrong, equal}
use Rattle.theory.proofs.acceptance.Rows.{none_below}
use Rattle.theory.proofs.order.Ops.{numbered_kind_kind}
use Rattle.theory.proofs.order.Numbered.{kind_above, each_number, each_access_kind, same, same_true, no_clash}
use Rattle.theory.proofs.tables.Ranges.{access_of, access_fits}
use Rattle.theory.proofs.history.Numbers.{asker_op}
use Rattle.theory.proofs.history.Stores.{stored_again}

-- a kind of access, a task and a variable
pub record OfAccess (k t v : ℕ) : Type 0 where
  pub is_access_lem : accesses k ≡ true
  pub task_fits : t < tasks
  pub variable_fits : v < variables

-- an act that is an access names a variable
pub of_access : {k t n : ℕ} → Fitting k t n → accesses k ≡ true → OfAccess k t n
of_access f e = record { is_access_lem = e; task_fits = f.task_fits; variable_fits = access_fits f e }

-- a fresh names one too
pub fresh_fits : {k t n : ℕ} → Fitting k t n → k ≡ kind fresh → n < variables
fresh_fits {n = n} f e = subst (λ (j : ℕ). n < series_size j) e f.on_fits

pub kept_nowhere : {A : Type 0} (f : ℕ → A → A) (k v u : ℕ) (b : A) → accesses k ≡ false → under_each f k v u b ≡ b
unfolding under_each turns
kept_nowhere f k v u b e = none (length askers)
  where
    nowhere : (a : ℕ) → kept_for k a ≡ false
    nowhere a = sym (no_clash k _ e)

    none : (n : ℕ) → turns n (λ a b. cond (kept_for k a) (f (slot a v u) b) b) b ≡ b
    none zero = refl
    none (suc n) = rw (nowhere n) (none n)

-- an access is kept
pub kept_access : (k t v number : ℕ) (last : List ℕ) → accesses k ≡ true → last_after k t v number last ≡ with_access k t v number last
kept_access k t v number last e = decided (equal k (kind fresh))
  where
    decided : {b : Bool} → Reflects (k ≡ kind fresh) b → cond b (emptied v last) (with_access k t v number last) ≡ with_access k t v number last
    decided (right q) = absurd (true≢false (sym e ∙ ap accesses q))
    decided (wrong n) = refl

-- what is no access empties the history, if it is a fresh, and nothing else
pub kept_other : (k t n number : ℕ) (last : List ℕ) → accesses k ≡ false → last_after k t n number last ≡ cond (eqb k (kind fresh)) (emptied n last) last
kept_other k t n number last e = ap (λ (l : List ℕ). cond (eqb k (kind fresh)) (emptied n last) l) (kept_nowhere (λ s l. set l s number) k n t last e)

-- The kinds of access by their numbers among them, and by the numbers of their kinds

-- its number among those that ask is that of its kind there
pub asker_of : (k : ℕ) → accesses k ≡ true → numbered_kind k ≡ of_op (asker (ask_at k))
asker_of k e =
    let (o, q, a) = access_of k e in
    ap numbered_kind q ∙ numbered_kind_kind o ∙ ap of_op (sym (ap (λ (j : ℕ). asker (ask_at j)) q ∙ asker_op o a))

-- how the code looks for it: the place of its kind number among theirs, and their count where there is none
abbrev pub asker_kinds : List ℕ
asker_kinds = map kind askers

abbrev pub sought : ℕ → ℕ → ℕ → ℕ
sought k a r = cond (eqb k (get_or asker_kinds a 0)) a r

-- r is the number that is found of kind k
abbrev pub AskNumber : ℕ → ℕ → Type 0
AskNumber k r = (r ≡ cond (accesses k) (ask_at k) (length askers)) × (ltb r (length askers) ≡ accesses k)

abbrev sought_right : ℕ → Bool
sought_right k = let r = turns (length askers) (sought k) (length askers) in eqb r (cond (accesses k) (ask_at k) (length askers)) && same (ltb r (length askers)) (accesses k)

sought_tried : any_below (length kinds) (λ k. not (sought_right k)) ≡ false
unfolding turns
sought_tried = refl

asker_kinds_tried : any_below (length askers) (λ a. leb (length kinds) (get_or asker_kinds a 0)) ≡ false
unfolding turns
asker_kinds_tried = refl

-- beyond the kinds there is nothing to find
nothing_beyond : (k : ℕ) → length kinds ≤ k → (n : ℕ) → n ≤ length askers → turns n (sought k) (length askers) ≡ length askers
unfolding turns
nothing_beyond k h zero l = refl
nothing_beyond k h (suc n) l =
    let b = leb-false (length kinds) (get_or asker_kinds n 0) (none_below (length askers) (λ a. leb (length kinds) (get_or asker_kinds a 0)) asker_kinds_tried n (omega arith)) in
    rw (ne_eqb k (get_or asker_kinds n 0) (λ q. absurd (omega (arith, q, b, h)))) (nothing_beyond k h n (omega arith))

pub sought_right_lem : (k : ℕ) → AskNumber k (turns (length askers) (sought k) (length askers))
sought_right_lem k =
    let r = turns (length askers) (sought k) (length askers) in
    let f = each_number sought_right sought_tried beyond k in
    let at = eqb r (cond (accesses k) (ask_at k) (length askers)) in
    (eqb-true r (cond (accesses k) (ask_at k) (length askers)) (and_elim_left at _ f), same_true (ltb r (length askers)) (accesses k) (and_elim_right at _ f))
  where
    beyond : (k : ℕ) → length kinds ≤ k → sought_right k ≡ true
    beyond k h = rw (nothing_beyond k h (length askers) (omega arith), ap kind_accesses (kind_above k h)) refl

-- of a kind of access it is found
pub access_asks : (k : ℕ) {r : ℕ} → accesses k ≡ true → AskNumber k r → (r ≡ ask_at k) × (r < length askers)
access_asks k {r} e f = (rw e at f.0, ltb-true r (length askers) (f.1 ∙ e))

-- a kind clashes as its number among them does, and what is no access with nothing
pub clash_of : (k a : ℕ) {r : ℕ} {b : Bool} → a < length askers → AskNumber k r →
    (r < length askers → a < length askers → b ≡ clashes (asker r) (asker a)) → (ltb r (length askers) && b) ≡ kind_clashes (numbered_kind k) (asker a)
clash_of k a {r} {b} h f g = decided (accesses k) refl
  where
    decided : (t : Bool) → accesses k ≡ t → (ltb r (length askers) && b) ≡ kind_clashes (numbered_kind k) (asker a)
    decided true e =
        let q = access_asks k e f in
        rw (f.1 ∙ e) (g q.1 h ∙ ap (λ (i : ℕ). clashes (asker i) (asker a)) q.0 ∙ ap (λ (y : Kind). kind_clashes y (asker a)) (sym (asker_of k e)))
    decided false e = rw (f.1 ∙ e) (no_clash k (asker a) e)

-- where an access is kept when the kind with number a is at hand: under a, or, where the two do not clash, under a write once more, with which every
-- access clashes. So there is a store for each a, whatever the access is
abbrev pub write_asks : ℕ
write_asks = ask_at (kind write)

abbrev pub kept_under : ℕ → ℕ → ℕ
kept_under asks a = cond (clashes (asker asks) (asker a)) a write_asks

write_asks_tried : any_below (length kinds) (λ k. not (not (accesses k) || clashes (asker (ask_at k)) (asker write_asks))) ≡ false
unfolding turns rule
write_asks_tried = refl

pub kept_again : (k v u number : ℕ) (last : List ℕ) → accesses k ≡ true →
    turns (length askers) (λ a l. set l (slot (kept_under (ask_at k) a) v u) number) last ≡ with_access k u v number last
unfolding under_each
kept_again k v u number last e =
    stored_again (λ a. clashes (asker (ask_at k)) (asker a)) (λ a. slot a v u) write_asks number (each_access_kind (λ k. clashes (asker (ask_at k)) (asker write_asks)) write_asks_tried k e) (length askers) last (lit< tt)
    ∙ ap (λ (y : Kind). turns (length askers) (λ a l. cond (kind_clashes y (asker a)) (set l (slot a v u) number) l) last) (sym (asker_of k e))
