-- Ops by their kind numbers, and by role: the six that carry order, and plain ones, which are acts and nothing more to the order. What
-- holds of every op is computed over the list of kinds. Assumes nothing.
use mathlib.Core.Path.{◌≡◌, refl, sym, ◌∙◌, ap, subst}
use mathlib.Core.Bool.{Bool, true, false, not, ◌&&◌, ◌||◌, true≢false}
use mathlib.Mathlib.Data.Bool.Basic.{and_elim_left, and_elim_right}
use mathlib.Core.List.{List, [], ◌∷◌}
use mathlib.Core.Logic.{◌≢◌}
use Prim.Native.Nat.{ℕ, zero, suc, ◌<◌}
use borrow.Author.Tests.{ne_eqb, eqb-true, not-false}
use lib.Dec.{T, eqb}
use lib.ListN.{length, get_or}
use Rattle.theory.specs.order.Limits.{variables}
use Rattle.theory.specs.order.Recording.{Op, read, write, take, give, look, set, start, join, fresh, miss, bump, owned, Effect, keeps, begins, ends, about, kind, Series, task, semaphore, flag, variable, profile, series, size_of, is_access, loss_mark, Kind, of_op, of_mark, kinds, numbered_kind, kind_op, op_of, kind_accesses, accesses, series_size, event_of, act, ◌is◌}
use Rattle.theory.specs.basics.Turns.{turns, any_below}
use Rattle.theory.specs.acceptance.Table.{Fitting}
use Rattle.theory.proofs.acceptance.Rows.{none_below}
use Rattle.theory.proofs.basics.Reflects.{Reflects, right, wrong, equal, same_as, by_test, is_true}

-- The list of kinds has each op at its number

pub numbered_kind_kind : (o : Op) → numbered_kind (kind o) ≡ of_op o
numbered_kind_kind read = refl
numbered_kind_kind write = refl
numbered_kind_kind take = refl
numbered_kind_kind give = refl
numbered_kind_kind look = refl
numbered_kind_kind set = refl
numbered_kind_kind start = refl
numbered_kind_kind join = refl
numbered_kind_kind fresh = refl
numbered_kind_kind miss = refl
numbered_kind_kind bump = refl
numbered_kind_kind owned = refl

pub op_of_kind : (o : Op) → op_of (kind o) ≡ o
op_of_kind o = ap kind_op (numbered_kind_kind o)

not-true : (b : Bool) → not b ≡ true → b ≡ false
not-true true e = sym e
not-true false e = refl

-- Equality of ops

pub same_op : (o p : Op) → Reflects (o ≡ p) (o is p)
same_op o p = same_as (λ e. sym (op_of_kind o) ∙ ap op_of e ∙ op_of_kind p) (ap kind) (equal (kind o) (kind p))

pub is_not : {o p : Op} → ¬ (o ≡ p) → (o is p) ≡ false
is_not {o} {p} n = decided (same_op o p)
  where
    decided : {b : Bool} → Reflects (o ≡ p) b → b ≡ false
    decided (right e) = absurd (n e)
    decided (wrong f) = refl

-- What a test over the list of kinds shows

abbrev pub all : (Kind → Bool) → List Kind → Bool
all p [] = true
all p (k ∷ ks) = p k && all p ks

all_at : (p : Kind → Bool) (ks : List Kind) → all p ks ≡ true → p of_mark ≡ true → (n : ℕ) → p (get_or ks n of_mark) ≡ true
all_at p [] e m n = m
all_at p (k ∷ ks) e m zero = and_elim_left (p k) (all p ks) e
all_at p (k ∷ ks) e m (suc n) = all_at p ks (and_elim_right (p k) (all p ks) e) m n

-- of every kind number
pub each_kind : (p : Kind → Bool) → all p kinds ≡ true → p of_mark ≡ true → (k : ℕ) → p (numbered_kind k) ≡ true
each_kind p e m k = all_at p kinds e m k

-- of every op
pub each_op : (p : Kind → Bool) → all p kinds ≡ true → p of_mark ≡ true → (o : Op) → p (of_op o) ≡ true
each_op p e m o = subst (λ (k : Kind). p k ≡ true) (numbered_kind_kind o) (each_kind p e m (kind o))

-- Kinds

abbrev kind_no_mark : Kind → Bool
kind_no_mark (of_op o) = not (eqb (kind o) loss_mark)
kind_no_mark of_mark = true

pub no_mark : (o : Op) → eqb (kind o) loss_mark ≡ false
no_mark o = not-true (eqb (kind o) loss_mark) (each_op kind_no_mark refl refl o)

-- a kind number that is known and no mark's is some op's: tried out
kinds_tried : any_below (length kinds) (λ k. not (eqb k loss_mark || eqb (kind (op_of k)) k)) ≡ false
unfolding turns
kinds_tried = refl

pub op_of_lem : (k : ℕ) → k < length kinds → k ≢ loss_mark → (o : Op) × (k ≡ kind o)
op_of_lem k h n = (op_of k, sym (eqb-true (kind (op_of k)) k (rw (ne_eqb k loss_mark n) at tried)))
  where
    tried : (eqb k loss_mark || eqb (kind (op_of k)) k) ≡ true
    tried = not-false _ (none_below (length kinds) (λ k. not (eqb k loss_mark || eqb (kind (op_of k)) k)) kinds_tried k h)

pub event_act : (o : Op) (t n : ℕ) → event_of (record { kind = kind o; task = t; on = n }) ≡ act o t n
event_act o t n = rw (no_mark o, op_of_kind o)

pub series_op : (o : Op) → series_size (kind o) ≡ size_of (series o)
series_op o = ap (λ (p : Op). size_of (series p)) (op_of_kind o)

pub on_series : (o : Op) {t n : ℕ} → Fitting (kind o) t n → n < size_of (series o)
on_series o {n = n} f = subst (λ (s : ℕ). n < s) (series_op o) f.on_fits

-- Accesses

pub access_kind : (o : Op) → accesses (kind o) ≡ is_access o
access_kind o = ap kind_accesses (numbered_kind_kind o)

pub access_tests : (o : Op) → T (is_access o) → accesses (kind o) ≡ true
access_tests o a = access_kind o ∙ is_true (by_test (is_access o)) a

pub other_tests : (o : Op) → ¬ T (is_access o) → accesses (kind o) ≡ false
other_tests o n = access_kind o ∙ decided (by_test (is_access o))
  where
    decided : {b : Bool} → Reflects (T (is_access o)) b → b ≡ false
    decided (right a) = absurd (n a)
    decided (wrong f) = refl

-- the series is that of the variables
abbrev pub is_variable : Series → Bool
is_variable task = false
is_variable semaphore = false
is_variable flag = false
is_variable variable = true
is_variable profile = false

-- the number of an access is a variable: tried out
abbrev on_variable : Kind → Bool
on_variable (of_op o) = not (is_access o) || is_variable (series o)
on_variable of_mark = true

pub access_series : (o : Op) → T (is_access o) → series o ≡ variable
access_series o a = only (series o) (rw (is_true (by_test (is_access o)) a) at (each_op on_variable refl refl o))
  where
    only : (x : Series) → is_variable x ≡ true → x ≡ variable
    only variable e = refl
    only task e = absurd (true≢false (sym e))
    only semaphore e = absurd (true≢false (sym e))
    only flag e = absurd (true≢false (sym e))
    only profile e = absurd (true≢false (sym e))

pub access_on : (o : Op) {n : ℕ} → T (is_access o) → n < size_of (series o) → n < variables
access_on o {n} a h = subst (λ (x : Series). n < size_of x) (access_series o a) h

-- Effects

abbrev is_keeps : Effect → Bool
is_keeps keeps = true
is_keeps begins = false
is_keeps ends = false

abbrev keeps_phase : Kind → Bool
keeps_phase (of_op o) = (o is start) || ((o is join) || is_keeps (about o).effect)
keeps_phase of_mark = true

-- an op that is neither start nor join keeps phases
pub keeps_phases : (o : Op) → (o is start) ≡ false → (o is join) ≡ false → (about o).effect ≡ keeps
keeps_phases o s j = kept (about o).effect (rw (s, j) at (each_op keeps_phase refl refl o))
  where
    kept : (e : Effect) → is_keeps e ≡ true → e ≡ keeps
    kept keeps e = refl
    kept begins e = absurd (true≢false (sym e))
    kept ends e = absurd (true≢false (sym e))

-- Roles

-- an op that carries order nowhere but along its own task
pub record Plain (o : Op) : Type 0 where
  pub not_take : (o is take) ≡ false
  pub not_give : (o is give) ≡ false
  pub not_look : (o is look) ≡ false
  pub not_set : (o is set) ≡ false
  pub not_start : (o is start) ≡ false
  pub not_join : (o is join) ≡ false

pub data Role : Op → Type 0 where
  a_take : Role take
  a_give : Role give
  a_look : Role look
  a_set : Role set
  a_start : Role start
  a_join : Role join
  plain : {o : Op} → Plain o → Role o

pub role : (o : Op) → Role o
role o = decided (same_op o take) (same_op o give) (same_op o look) (same_op o set) (same_op o start) (same_op o join)
  where
    decided : {a b c d e f : Bool} → Reflects (o ≡ take) a → Reflects (o ≡ give) b → Reflects (o ≡ look) c → Reflects (o ≡ set) d →
        Reflects (o ≡ start) e → Reflects (o ≡ join) f → Role o
    decided (right q) _ _ _ _ _ = subst Role (sym q) a_take
    decided (wrong _) (right q) _ _ _ _ = subst Role (sym q) a_give
    decided (wrong _) (wrong _) (right q) _ _ _ = subst Role (sym q) a_look
    decided (wrong _) (wrong _) (wrong _) (right q) _ _ = subst Role (sym q) a_set
    decided (wrong _) (wrong _) (wrong _) (wrong _) (right q) _ = subst Role (sym q) a_start
    decided (wrong _) (wrong _) (wrong _) (wrong _) (wrong _) (right q) = subst Role (sym q) a_join
    decided (wrong t) (wrong g) (wrong l) (wrong s) (wrong u) (wrong j) =
        plain (record { not_take = is_not t; not_give = is_not g; not_look = is_not l; not_set = is_not s; not_start = is_not u; not_join = is_not j })
