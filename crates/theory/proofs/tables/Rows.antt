-- Tables of rows and columns: their size, what a store does to their cells, and what a row knows once it is joined by another.
-- Assumes nothing.
use mathlib.Core.Path.{◌≡◌, refl, ap, ◌∙◌, sym}
use mathlib.Core.Bool.{Bool}
use mathlib.Core.Logic.{◌↔◌, ◌⊎◌, inl, inr, ⊎_elim}
use mathlib.Core.List.{List}
use Prim.Native.Nat.{ℕ, zero, suc, ◌+◌, ◌*◌, ◌-◌, ◌≤◌, ◌<◌, max}
use native.Mathlib.Nat.{mul-le-mul_right, suc-mul}
use native.Mathlib.Omega.{arith}
use lib.Bits.{bit_or, or_self, or_comm, or_zero_r}
use Rattle.std.proofs.lemmas.Nat.Bits.{bit_at_or, same_from_bits}
use lib.ListN.{length, get_or, set, length-set, replicate, length-replicate, get_or-replicate}
use lib.Seq.{set-get_or, get_or-set_same, get_or-set_other, ext_get_or}
use Rattle.theory.specs.basics.Turns.{turns}
use Rattle.theory.specs.tables.Rows.{cell, join_cell, join_row, row_of, join_with_cell, join_with, acquired_with, put_row, table_rows}
use Rattle.theory.proofs.basics.Reflects.{Reflects, right, wrong, equal, at_most}

-- Definition

-- a table of 82 rows
pub record Sized (w : ℕ) (b : List ℕ) : Type 0 where
  pub size : length b ≡ table_rows * w

-- a cell that is joined with itself is as it was
pub record Same (j : ℕ → ℕ → ℕ) : Type 0 where
  pub same : (x : ℕ) → j x x ≡ x

-- P is something that a cell can know, and that two joined cells know if one of them does
pub record Joins (j : ℕ → ℕ → ℕ) (P : ℕ → Type 0) : Type 0 where
  pub alone : Same j
  pub joined : (x y : ℕ) → P (j x y) ↔ (P x ⊎ P y)
  pub nothing : ¬ P 0

-- the cell of row r and column c knows it
pub record Knows (P : ℕ → Type 0) (w : ℕ) (b : List ℕ) (r c : ℕ) : Type 0 where
  pub knows : P (cell w b r c)

pub knows_same : {P : ℕ → Type 0} {w : ℕ} {b b' : List ℕ} {r r' c : ℕ} → cell w b r c ≡ cell w b' r' c → Knows P w b r c ↔ Knows P w b' r' c
knows_same e = (λ a. record { knows = rw e at a.knows }, λ a. record { knows = rw e a.knows })

-- a row knows what it knows
module _ {j : ℕ → ℕ → ℕ} (s : Same j) where
  self_turns : (w r n : ℕ) (b : List ℕ) → turns n (join_cell j w r r) b ≡ b
  unfolding turns
  self_turns w r zero b = refl
  self_turns w r (suc n) b =
      ap (join_cell j w r r n) (self_turns w r n b) ∙ (ap (set b (r * w + n)) (s.same (cell w b r n)) ∙ set-get_or b (r * w + n) 0)

  pub join_self : (w r : ℕ) (b : List ℕ) → b ≡ join_row j w r r b
  unfolding join_row
  join_self w r b = sym (self_turns w r w b)

-- the greater of two numbers, and the bits of both
pub same_max : Same max
same_max = record { same = λ x. omega arith }

pub same_or : Same bit_or
same_or = record { same = or_self }

-- in whatever order cells are joined, and however often one is, they know the same, and a cell of nothing adds nothing
pub record Gathers (j : ℕ → ℕ → ℕ) : Type 0 where
  pub alone : Same j
  pub comm : (x y : ℕ) → j x y ≡ j y x
  pub assoc : (x y z : ℕ) → j (j x y) z ≡ j x (j y z)
  pub zero : (x : ℕ) → j x 0 ≡ x

gathers_twice : {j : ℕ → ℕ → ℕ} → Gathers j → (x y : ℕ) → j (j x y) (j x y) ≡ j x (j y x)
gathers_twice {j} g x y = g.alone.same (j x y) ∙ sym (ap (j x) (g.comm y x) ∙ (sym (g.assoc x x y) ∙ ap (λ z. j z y) (g.alone.same x)))

pub gathers_max : Gathers max
gathers_max = record { alone = same_max; comm = λ x y. omega arith; assoc = λ x y z. omega arith; zero = λ x. omega arith }

pub gathers_or : Gathers bit_or
gathers_or = record {
  alone = same_or;
  comm = or_comm;
  assoc = λ x y z. same_from_bits _ _ (λ i. omega (arith, bit_at_or (bit_or x y) z i, bit_at_or x y i, bit_at_or x (bit_or y z) i, bit_at_or y z i));
  zero = or_zero_r;
}

-- Size

pub sized_set : {w : ℕ} {b : List ℕ} → Sized w b → (k v : ℕ) → Sized w (set b k v)
sized_set {b = b} s k v = record { size = length-set b k v ∙ s.size }

pub sized_turns : {w : ℕ} {b : List ℕ} (n : ℕ) {f : ℕ → List ℕ → List ℕ} → ((k : ℕ) (x : List ℕ) → Sized w x → Sized w (f k x)) →
    Sized w b → Sized w (turns n f b)
unfolding turns
sized_turns zero h s = s
sized_turns (suc n) h s = h n _ (sized_turns n h s)

pub sized_join : {w : ℕ} {b : List ℕ} → Sized w b → (j : ℕ → ℕ → ℕ) (to from : ℕ) → Sized w (join_row j w to from b)
unfolding join_row
sized_join {w} s j to from = sized_turns w (λ k x t. sized_set t _ _) s

-- Places

-- a row ends before the next begins
row_end : (w r q : ℕ) → r < q → r * w + w ≤ q * w
row_end w r q h = omega (arith, suc-mul r w, mul-le-mul_right w h)

pub in_table : {w : ℕ} {b : List ℕ} {r c : ℕ} → Sized w b → r < table_rows → c < w → r * w + c < length b
in_table {w} {r = r} s h l = omega (arith, row_end w r table_rows h)

-- each place is in one row and one column
row_at_most : (w r q c d : ℕ) → d < w → r * w + c ≡ q * w + d → r ≤ q
row_at_most w r q c d l e = decided (at_most r q)
  where
    decided : {b : Bool} → Reflects (r ≤ q) b → r ≤ q
    decided (right h) = h
    decided (wrong f) = let h : q < r = omega arith in absurd (omega (arith, row_end w q r h))

pub one_place : (w r q c d : ℕ) → c < w → d < w → r * w + c ≡ q * w + d → (r ≡ q) × (c ≡ d)
one_place w r q c d l m e = (same, omega (arith, ap (λ (k : ℕ). k * w) same))
  where
    same : r ≡ q
    same = omega (arith, row_at_most w r q c d m e, row_at_most w q r d c l (sym e))

-- Stores

pub cell_set_same : {w : ℕ} {b : List ℕ} → Sized w b → (r c v : ℕ) → r < table_rows → c < w → cell w (set b (r * w + c) v) r c ≡ v
cell_set_same {w} {b} s r c v h l = get_or-set_same b (r * w + c) v 0 (in_table s h l)

pub cell_set_other : (w : ℕ) (b : List ℕ) (q d v r c : ℕ) → d < w → c < w → ¬ ((r ≡ q) × (c ≡ d)) →
    cell w (set b (q * w + d) v) r c ≡ cell w b r c
cell_set_other w b q d v r c m l n = get_or-set_other b (q * w + d) (r * w + c) v 0 (λ e. n (one_place w r q c d l m e))

-- Joining a row

-- n turns leave the other rows as they were, and the columns from n on
pub turns_other : (j : ℕ → ℕ → ℕ) (w : ℕ) (b : List ℕ) (to from n r c : ℕ) → n ≤ w → c < w → ¬ ((r ≡ to) × (c < n)) →
    cell w (turns n (join_cell j w to from) b) r c ≡ cell w b r c
unfolding turns
turns_other j w b to from zero r c h l f = refl
turns_other j w b to from (suc n) r c h l f =
    cell_set_other w (turns n (join_cell j w to from) b) to n _ r c h l (λ x. f (x.0, omega arith))
    ∙ turns_other j w b to from n r c (omega arith) l (λ x. f (x.0, omega arith))

module _ (j : ℕ → ℕ → ℕ) {w : ℕ} {b : List ℕ} (s : Sized w b) (to from : ℕ) where
  -- and below n the joined row has both
  turns_same : (n c : ℕ) → to < table_rows → n ≤ w → c < n → cell w (turns n (join_cell j w to from) b) to c ≡ j (cell w b to c) (cell w b from c)
  unfolding turns
  turns_same zero c t h l = absurd (omega arith)
  turns_same (suc n) c t h l = decided (equal c n) (turns_same n c t (omega arith))
    where
      past : List ℕ
      past = turns n (join_cell j w to from) b

      -- column n is as it was
      here : (r : ℕ) → cell w past r n ≡ cell w b r n
      here r = turns_other j w b to from n r n (omega arith) h (λ x. omega arith)

      decided : {p : Bool} → Reflects (c ≡ n) p → (c < n → cell w past to c ≡ j (cell w b to c) (cell w b from c)) →
          cell w (join_cell j w to from n past) to c ≡ j (cell w b to c) (cell w b from c)
      decided (right e) f = rw e (cell_set_same (sized_turns n (λ k x t. sized_set t _ _) s) to n _ t h ∙ (rw (here to, here from)))
      decided (wrong d) f = cell_set_other w past to n _ to c h (omega arith) (λ x. d x.1) ∙ f (omega arith)

pub join_cell_same : (j : ℕ → ℕ → ℕ) {w : ℕ} {b : List ℕ} → Sized w b → (to from c : ℕ) → to < table_rows → c < w →
    cell w (join_row j w to from b) to c ≡ j (cell w b to c) (cell w b from c)
unfolding join_row
join_cell_same j {w} s to from c h l = turns_same j s to from w c h (omega arith) l

pub join_cell_other : (j : ℕ → ℕ → ℕ) {w : ℕ} {b : List ℕ} → Sized w b → (to from r c : ℕ) → c < w → ¬ (r ≡ to) →
    cell w (join_row j w to from b) r c ≡ cell w b r c
unfolding join_row
join_cell_other j {w} {b} s to from r c l f = turns_other j w b to from w r c (omega arith) l (λ x. f x.0)

-- Joining a copy of a row

-- the first m cells of a row that is filled cell by cell
filled : (m : ℕ) (f : ℕ → ℕ) (r : List ℕ) (c : ℕ) → c < m → m ≤ length r → get_or (turns m (λ k x. set x k (f k)) r) c 0 ≡ f c
unfolding turns
filled zero f r c h l = absurd (omega arith)
filled (suc m) f r c h l = decided (equal c m) (λ k. filled m f r c k (omega arith))
  where
    before : List ℕ
    before = turns m (λ k x. set x k (f k)) r

    same_length : (n : ℕ) → length (turns n (λ k x. set x k (f k)) r) ≡ length r
    same_length zero = refl
    same_length (suc n) = length-set (turns n (λ k x. set x k (f k)) r) n (f n) ∙ same_length n

    decided : {p : Bool} → Reflects (c ≡ m) p → (c < m → get_or before c 0 ≡ f c) → get_or (set before m (f m)) c 0 ≡ f c
    decided (right e) ih = rw e (get_or-set_same before m (f m) 0 (omega (arith, same_length m)))
    decided (wrong d) ih = get_or-set_other before m c (f m) 0 (λ e. d e) ∙ ih (omega arith)

pub row_cell : (w from : ℕ) (b : List ℕ) (c : ℕ) → c < w → get_or (row_of w from b) c 0 ≡ cell w b from c
unfolding row_of
row_cell w from b c h = filled w (λ k. cell w b from k) (replicate w 0) c h (omega (arith, length-replicate {A = ℕ} w 0))

-- the copy has what the row has, since no column is stored to before it is read
pub join_copy : (j : ℕ → ℕ → ℕ) (w to from : ℕ) (b : List ℕ) → join_with j w to (row_of w from b) b ≡ join_row j w to from b
unfolding join_row join_with turns
join_copy j w to from b = steps w (omega arith)
  where
    steps : (n : ℕ) → n ≤ w → turns n (join_with_cell j w to (row_of w from b)) b ≡ turns n (join_cell j w to from) b
    steps zero h = refl
    steps (suc n) h =
        let q : get_or (row_of w from b) n 0 ≡ cell w (turns n (join_cell j w to from) b) from n =
        row_cell w from b n h ∙ sym (turns_other j w b to from n from n (omega arith) h (λ x. omega (arith, x.1))) in
        rw (steps n (omega arith), q)

-- a row stays as it is where another is joined with it
other_kept : (j : ℕ → ℕ → ℕ) (w to from : ℕ) (b : List ℕ) → ¬ (to ≡ from) → row_of w from (join_row j w to from b) ≡ row_of w from b
unfolding row_of join_row turns
other_kept j w to from b d = steps w (omega arith)
  where
    steps : (n : ℕ) → n ≤ w →
        turns n (λ c row. set row c (cell w (turns w (join_cell j w to from) b) from c)) (replicate w 0)
        ≡ turns n (λ c row. set row c (cell w b from c)) (replicate w 0)
    steps zero h = refl
    steps (suc n) h = rw (steps n (omega arith), turns_other j w b to from w from n (omega arith) h (λ x. d (sym x.0)))

-- and where it is joined with itself
row_kept : {j : ℕ → ℕ → ℕ} → Same j → (w to from : ℕ) (b : List ℕ) → row_of w from (join_row j w to from b) ≡ row_of w from b
row_kept {j} s w to from b = decided (equal to from)
  where
    decided : {p : Bool} → Reflects (to ≡ from) p → row_of w from (join_row j w to from b) ≡ row_of w from b
    decided (right e) = rw e (ap (row_of w from) (sym (join_self s w from b)))
    decided (wrong d) = other_kept j w to from b d

-- so one copy serves joins with any number of rows
pub join_kept : {j : ℕ → ℕ → ℕ} → Same j → (w to from : ℕ) (b : List ℕ) {x row : List ℕ} → row_of w from b ≡ row → x ≡ join_with j w to row b →
    (x ≡ join_row j w to from b) × (row_of w from x ≡ row)
join_kept {j} s w to from b {x} e h = (joined, ap (row_of w from) joined ∙ (row_kept s w to from b ∙ e))
  where
    joined : x ≡ join_row j w to from b
    joined = h ∙ (rw (← e) (join_copy j w to from b))

-- Overwriting a row

-- stores to n places in turn, from place k on
abbrev pub stores : ℕ → (ℕ → List ℕ → ℕ) → ℕ → List ℕ → List ℕ
stores k h n b = turns n (λ c x. set x (k + c) (h c x)) b

module _ (k : ℕ) (h : ℕ → List ℕ → ℕ) (b : List ℕ) where
  pub stores_length : (n : ℕ) → length (stores k h n b) ≡ length b
  unfolding turns
  stores_length zero = refl
  stores_length (suc n) = length-set (stores k h n b) (k + n) _ ∙ stores_length n

  pub stores_other : (n i : ℕ) → ((c : ℕ) → c < n → ¬ (i ≡ k + c)) → get_or (stores k h n b) i 0 ≡ get_or b i 0
  unfolding turns
  stores_other zero i f = refl
  stores_other (suc n) i f =
      get_or-set_other (stores k h n b) (k + n) i _ 0 (f n (omega arith)) ∙ stores_other n i (λ c l. f c (omega arith))

  pub stores_at : (n c : ℕ) → c < n → k + c < length b → get_or (stores k h n b) (k + c) 0 ≡ h c (stores k h c b)
  unfolding turns
  stores_at zero c l m = absurd (omega arith)
  stores_at (suc n) c l m = decided (equal c n) (λ q. stores_at n c q m)
    where
      decided : {p : Bool} → Reflects (c ≡ n) p → (c < n → get_or (stores k h n b) (k + c) 0 ≡ h c (stores k h c b)) →
          get_or (set (stores k h n b) (k + n) (h n (stores k h n b))) (k + c) 0 ≡ h c (stores k h c b)
      decided (right e) ih = rw e (get_or-set_same (stores k h n b) (k + n) _ 0 (omega (arith, stores_length n)))
      decided (wrong d) ih = get_or-set_other (stores k h n b) (k + n) (k + c) _ 0 (λ q. d (omega arith)) ∙ ih (omega arith)

pub sized_put : {w : ℕ} {b : List ℕ} → Sized w b → (to : ℕ) (row : List ℕ) → Sized w (put_row w to row b)
unfolding put_row
sized_put {w} s to row = sized_turns w (λ k x t. sized_set t _ _) s

pub put_same : {w : ℕ} {b : List ℕ} → Sized w b → (to c : ℕ) (row : List ℕ) → to < table_rows → c < w → cell w (put_row w to row b) to c ≡ get_or row c 0
unfolding put_row
put_same {w} {b} s to c row h l = stores_at (to * w) (λ c x. get_or row c 0) b w c l (in_table s h l)

pub put_other : (w : ℕ) (b row : List ℕ) (to r c : ℕ) → c < w → ¬ (r ≡ to) → cell w (put_row w to row b) r c ≡ cell w b r c
unfolding put_row
put_other w b row to r c l d = stores_other (to * w) (λ c x. get_or row c 0) b w (r * w + c) (λ k h e. d (one_place w r to c k l h e).0)

-- Joining by way of a row that gathers

-- the cells of a row that n turns of a join with a row by itself have not come to, and of all other rows
with_other : (j : ℕ → ℕ → ℕ) (w : ℕ) (b row : List ℕ) (to n r c : ℕ) → n ≤ w → c < w → ¬ ((r ≡ to) × (c < n)) →
    cell w (turns n (join_with_cell j w to row) b) r c ≡ cell w b r c
unfolding turns
with_other j w b row to zero r c h l f = refl
with_other j w b row to (suc n) r c h l f =
    cell_set_other w (turns n (join_with_cell j w to row) b) to n _ r c h l (λ x. f (x.0, omega arith))
    ∙ with_other j w b row to n r c (omega arith) l (λ x. f (x.0, omega arith))

module _ (j : ℕ → ℕ → ℕ) (w to from : ℕ) (b row : List ℕ) where
  joined_at : (c : ℕ) → c < w → to * w + c < length b → cell w (join_row j w to from b) to c ≡ j (cell w b to c) (cell w b from c)
  unfolding join_row
  joined_at c l m =
      stores_at (to * w) (λ c x. j (cell w x to c) (cell w x from c)) b w c l m
      ∙ rw (turns_other j w b to from c to c (omega arith) l (λ x. omega (arith, x.1)), turns_other j w b to from c from c (omega arith) l (λ x. omega (arith, x.1)))

  with_at : (c : ℕ) → c < w → to * w + c < length b → cell w (join_with j w to row b) to c ≡ j (cell w b to c) (get_or row c 0)
  unfolding join_with
  with_at c l m =
      stores_at (to * w) (λ c x. j (cell w x to c) (get_or row c 0)) b w c l m
      ∙ rw (with_other j w b row to c to c (omega arith) l (λ x. omega (arith, x.1)))

  acquired_cell : (c : ℕ) → c < w → get_or (acquired_with j w from row b) c 0 ≡ j (get_or row c 0) (cell w b from c)
  unfolding acquired_with
  acquired_cell c h = filled w (λ k. j (get_or row k 0) (cell w b from k)) (replicate w 0) c h (omega (arith, length-replicate {A = ℕ} w 0))

-- a row that is joined with another knows what a row by itself has gathered from it
module _ {j : ℕ → ℕ → ℕ} (g : Gathers j) (w to from : ℕ) (b row : List ℕ) where
  with_length : (row : List ℕ) → length (join_with j w to row b) ≡ length b
  unfolding join_with
  with_length row = stores_length (to * w) (λ c x. j (cell w x to c) (get_or row c 0)) b w

  join_length : (x : List ℕ) → length (join_row j w to from x) ≡ length x
  unfolding join_row
  join_length x = stores_length (to * w) (λ c x. j (cell w x to c) (cell w x from c)) x w

  with_outside : (row : List ℕ) (i : ℕ) → ((c : ℕ) → c < w → ¬ (i ≡ to * w + c)) → get_or (join_with j w to row b) i 0 ≡ get_or b i 0
  unfolding join_with
  with_outside row i f = stores_other (to * w) (λ c x. j (cell w x to c) (get_or row c 0)) b w i f

  join_outside : (x : List ℕ) (i : ℕ) → ((c : ℕ) → c < w → ¬ (i ≡ to * w + c)) → get_or (join_row j w to from x) i 0 ≡ get_or x i 0
  unfolding join_row
  join_outside x i f = stores_other (to * w) (λ c x. j (cell w x to c) (cell w x from c)) x w i f

  with_from : (c : ℕ) → c < w → to * w + c < length b →
      j (cell w (join_with j w to row b) to c) (cell w (join_with j w to row b) from c) ≡ j (cell w b to c) (j (get_or row c 0) (cell w b from c))
  with_from c l m = decided (equal from to)
    where
      there : cell w (join_with j w to row b) to c ≡ j (cell w b to c) (get_or row c 0)
      there = with_at j w to from b row c l m

      other : ¬ (from ≡ to) → cell w (join_with j w to row b) from c ≡ cell w b from c
      other d = unfold join_with in with_other j w b row to w from c (omega arith) l (λ x. d x.0)

      decided : {p : Bool} → Reflects (from ≡ to) p →
          j (cell w (join_with j w to row b) to c) (cell w (join_with j w to row b) from c) ≡ j (cell w b to c) (j (get_or row c 0) (cell w b from c))
      decided (right e) = rw (e, there) (gathers_twice g _ _)
      decided (wrong d) = rw (there, other d) (g.assoc _ _ _)

  acquired_inside : (c : ℕ) → c < w → to * w + c < length b →
      cell w (join_row j w to from (join_with j w to row b)) to c ≡ cell w (join_with j w to (acquired_with j w from row b) b) to c
  acquired_inside c l m =
      joined_at j w to from (join_with j w to row b) row c l (omega (arith, with_length row))
      ∙ (with_from c l m ∙ sym (with_at j w to from b (acquired_with j w from row b) c l m ∙ rw (acquired_cell j w to from b row c l)))

  pub join_acquired : join_row j w to from (join_with j w to row b) ≡ join_with j w to (acquired_with j w from row b) b
  join_acquired = ext_get_or 0 _ _ (long ∙ sym (with_length (acquired_with j w from row b))) (λ i h. decided i (omega (arith, long)) (at_most (to * w) i) (at_most (suc i) (to * w + w)))
    where
      long : length (join_row j w to from (join_with j w to row b)) ≡ length b
      long = join_length (join_with j w to row b) ∙ with_length row

      Same : ℕ → Type 0
      Same i = get_or (join_row j w to from (join_with j w to row b)) i 0 ≡ get_or (join_with j w to (acquired_with j w from row b) b) i 0

      outside : (i : ℕ) → ((c : ℕ) → c < w → ¬ (i ≡ to * w + c)) → Same i
      outside i f = join_outside (join_with j w to row b) i f ∙ (with_outside row i f ∙ sym (with_outside (acquired_with j w from row b) i f))

      decided : (i : ℕ) → i < length b → {p q : Bool} → Reflects (to * w ≤ i) p → Reflects (i < to * w + w) q → Same i
      decided i h (right l) (right m) =
          let e : to * w + (i - to * w) ≡ i = omega arith in
          rw e at (acquired_inside (i - to * w) (omega arith) (omega arith))
      decided i h (wrong f) y = outside i (λ c l e. f (omega arith))
      decided i h (right l) (wrong f) = outside i (λ c l e. f (omega arith))

-- a row of zeros has gathered nothing
pub join_nothing : {j : ℕ → ℕ → ℕ} → Gathers j → (w to : ℕ) (b : List ℕ) → join_with j w to (replicate w 0) b ≡ b
unfolding join_with turns
join_nothing {j} g w to b = steps w (omega arith)
  where
    nothing : (x n : ℕ) → n < w → j x (get_or (replicate w 0) n 0) ≡ x
    nothing x n h = rw (get_or-replicate {A = ℕ} w n 0 0 h) (g.zero x)

    steps : (n : ℕ) → n ≤ w → turns n (join_with_cell j w to (replicate w 0)) b ≡ b
    steps zero h = refl
    steps (suc n) h = rw (steps n (omega arith), nothing (cell w b to n) n h) (set-get_or b (to * w + n) 0)

-- What a joined row knows

pub join_knows : {j : ℕ → ℕ → ℕ} {P : ℕ → Type 0} → Joins j P → {w : ℕ} {b : List ℕ} {to from r c : ℕ} → Sized w b → to < table_rows → c < w →
    Knows P w (join_row j w to from b) r c ↔ (Knows P w b r c ⊎ ((r ≡ to) × Knows P w b from c))
join_knows {j} {P} joins {w} {b} {to} {from} {r} {c} s h l = decided (equal r to)
  where
    both : (x : ℕ) → r ≡ to → x ≡ j (cell w b r c) (cell w b from c) → P x ↔ (Knows P w b r c ⊎ ((r ≡ to) × Knows P w b from c))
    both x e q = (
      λ g. ⊎_elim (λ v. inl (record { knows = v })) (λ v. inr (e, record { knows = v })) ((joins.joined _ _).0 (rw q at g)),
      λ a. rw q ((joins.joined _ _).1 (⊎_elim (λ v. inl v.knows) (λ v. inr v.1.knows) a)),
    )

    decided : {p : Bool} → Reflects (r ≡ to) p → Knows P w (join_row j w to from b) r c ↔ (Knows P w b r c ⊎ ((r ≡ to) × Knows P w b from c))
    decided (right e) =
        let q = both (cell w (join_row j w to from b) r c) e (rw e (join_cell_same j s to from c h l)) in
        (λ a. q.0 a.knows, λ a. record { knows = q.1 a })
    decided (wrong f) =
        let q = knows_same (join_cell_other j s to from r c l f) in
        (λ a. inl (q.0 a), ⊎_elim (λ a. q.1 a) (λ a. absurd (f a.0)))

-- Fresh tables

pub sized_fresh : (w : ℕ) → Sized w (replicate (table_rows * w) 0)
sized_fresh w = record { size = length-replicate (table_rows * w) 0 }

pub fresh_cell : (w r c : ℕ) → r < table_rows → c < w → cell w (replicate (table_rows * w) 0) r c ≡ 0
fresh_cell w r c h l = get_or-replicate (table_rows * w) (r * w + c) 0 0 (omega (arith, row_end w r table_rows h))

-- nothing is known in a fresh table
pub fresh_none : {P : ℕ → Type 0} → ¬ P 0 → (w r c : ℕ) → r < table_rows → c < w → ¬ Knows P w (replicate (table_rows * w) 0) r c
fresh_none n w r c hr hc a = n (rw (fresh_cell w r c hr hc) at a.knows)
