-- What the words and counts of the lazy reckoning hold after each of its operations, bit by bit. Assumes nothing.
use mathlib.Core.Path.{◌≡◌, refl, sym, ◌∙◌, ap, subst}
use mathlib.Core.Bool.{Bool, true, false, cond, not, ◌&&◌}
use mathlib.Core.Logic.{◌↔◌, ◌⊎◌, inl, inr, ⊎_elim}
use mathlib.Core.List.{List}
use Prim.Native.Nat.{ℕ, zero, suc, ◌+◌, ◌*◌, ◌-◌, ◌/◌, ◌%◌, ◌^◌, ◌≤◌, ◌<◌, min}
use native.Mathlib.Nat.{zero-div}
use native.Mathlib.Omega.{arith}
use borrow.Author.Tests.{eqb-true}
use lib.Bits.{bit_and, bit_or, and_step, and_shr}
use lib.Dec.{T, eqb}
use lib.ListN.{length, get_or, set, length-set, replicate}
use lib.Pow.{field, mod-mod-pow}
use lib.Seq.{get_or-set_same, get_or-set_other}
use Rattle.theory.specs.basics.Turns.{turns, any_below}
use Rattle.theory.specs.order.Limits.{tasks}
use Rattle.theory.specs.order.Recording.{join, kind}
use Rattle.theory.specs.fillings.Completion.{bit}
use Rattle.theory.specs.tables.Rows.{hub, acquired_row, released_row}
use Rattle.theory.specs.tables.Reckonings.{word_bits, without_bit}
use Rattle.requests.specs.lazy.Walk.{Summed, nothing, add}
use Rattle.requests.specs.lazy.Fold.{Lazy, by_write, column, word_at, clear_column, add_column, unordered, learned, flowed, arrived_now, walk_by, walks}
use Rattle.theory.proofs.basics.Reflects.{Reflects, right, wrong, by_test, both, either, fails, same_as, equal}
use Rattle.theory.proofs.tables.Words.{joins_or, with_bit_lem, without_bit_lem}

-- A column is cleared

module _ (c : ℕ) (b : List ℕ) where
  abbrev cleared : ℕ → List ℕ
  cleared n = turns n (λ r x. set x r (without_bit c (word_at x r))) b

  cleared_length : (n : ℕ) → length (cleared n) ≡ length b
  unfolding turns
  cleared_length zero = refl
  cleared_length (suc n) = length-set (cleared n) n _ ∙ cleared_length n

  pub clear_length : length (clear_column c b) ≡ length b
  unfolding clear_column
  clear_length = cleared_length hub

  -- n turns leave the rows from n on as they were
  cleared_later : (n r : ℕ) → n ≤ r → word_at (cleared n) r ≡ word_at b r
  unfolding turns
  cleared_later zero r h = refl
  cleared_later (suc n) r h = get_or-set_other (cleared n) n r _ 0 (λ e. omega arith) ∙ cleared_later n r (omega arith)

  -- and clear those below
  cleared_same : (n r : ℕ) → n ≤ length b → r < n → word_at (cleared n) r ≡ without_bit c (word_at b r)
  unfolding turns
  cleared_same zero r h l = absurd (omega arith)
  cleared_same (suc n) r h l = decided (equal r n) (cleared_same n r (omega arith))
    where
      decided : {p : Bool} → Reflects (r ≡ n) p → (r < n → word_at (cleared n) r ≡ without_bit c (word_at b r)) →
          word_at (set (cleared n) n (without_bit c (word_at (cleared n) n))) r ≡ without_bit c (word_at b r)
      decided (right e) f = rw e (get_or-set_same (cleared n) n _ 0 (omega (arith, cleared_length n)) ∙ ap (without_bit c) (cleared_later n n (omega arith)))
      decided (wrong d) f = get_or-set_other (cleared n) n r _ 0 d ∙ f (omega arith)

pub clear_bit : (c d : ℕ) (b : List ℕ) (r : ℕ) → length b ≡ hub → r < hub → c < word_bits → d < word_bits →
    bit (word_at (clear_column c b) r) d ≡ cond (eqb d c) false (bit (word_at b r) d)
unfolding clear_column
clear_bit c d b r s h k l = ap (λ (x : ℕ). bit x d) (cleared_same c b hub r (omega arith) h) ∙ without_bit_lem c d (word_at b r) k l

-- A row's bit is added

pub add_length : (c u : ℕ) (b : List ℕ) → length (add_column c u b) ≡ length b
add_length c u b = length-set b u _

pub add_bit : (c d : ℕ) (b : List ℕ) (u r : ℕ) → length b ≡ hub → u < hub → r < hub → c < word_bits → d < word_bits →
    bit (word_at (add_column c u b) r) d ≡ cond (eqb r u && eqb d c) true (bit (word_at b r) d)
add_bit c d b u r s h m k l = decided (equal r u)
  where
    decided : {p : Bool} → Reflects (r ≡ u) p → bit (word_at (add_column c u b) r) d ≡ cond (p && eqb d c) true (bit (word_at b r) d)
    decided (right e) = rw e (ap (λ (x : ℕ). bit x d) (get_or-set_same b u _ 0 (omega arith)) ∙ with_bit_lem c d (word_at b u) k l)
    decided (wrong n) = ap (λ (x : ℕ). bit x d) (get_or-set_other b u r _ 0 n)

-- A row learns what another knows

pub learned_length : (to from : ℕ) (b : List ℕ) → length (learned to from b) ≡ length b
learned_length to from b = length-set b to _

pub learned_bit : (to from : ℕ) (b : List ℕ) (r d : ℕ) → length b ≡ hub → to < hub →
    T (bit (word_at (learned to from b) r) d) ↔ (T (bit (word_at b r) d) ⊎ ((r ≡ to) × T (bit (word_at b from) d)))
learned_bit to from b r d s h = decided (equal r to)
  where
    decided : {p : Bool} → Reflects (r ≡ to) p →
        T (bit (word_at (learned to from b) r) d) ↔ (T (bit (word_at b r) d) ⊎ ((r ≡ to) × T (bit (word_at b from) d)))
    decided (right e) = (λ t. ⊎_elim (λ x. inl (rw e x)) (λ x. inr (e, x)) (here.0 (rw e at t)), λ x. rw e (here.1 (⊎_elim (λ y. inl (rw e at y)) (λ y. inr y.1) x)))
      where
        here : T (bit (word_at (learned to from b) to) d) ↔ (T (bit (word_at b to) d) ⊎ T (bit (word_at b from) d))
        here = rw (get_or-set_same b to (bit_or (word_at b to) (word_at b from)) 0 (omega arith)) ((joins_or d).joined (word_at b to) (word_at b from))
    decided (wrong n) =
        let e = get_or-set_other b to r (bit_or (word_at b to) (word_at b from)) 0 n in
        (λ t. inl (subst (λ (x : ℕ). T (bit x d)) e t), λ x. subst (λ (x : ℕ). T (bit x d)) (sym e) (⊎_elim (λ y. y) (λ y. absurd (n y.0)) x))

-- Order over a record

pub flow_length : (acted k t n : ℕ) (b : List ℕ) → length (flowed acted k t n b) ≡ length b
flow_length acted k t n b =
    let acquired = acquired_row k t n (eqb k (kind join) && bit acted n) in
    learned_length (released_row k t n) t (learned t acquired b) ∙ learned_length t acquired b

pub flow_bit : (acted k t n : ℕ) (b : List ℕ) (r d : ℕ) → length b ≡ hub → t < tasks → released_row k t n < hub →
    T (bit (word_at (flowed acted k t n b) r) d)
    ↔ (T (bit (word_at b r) d) ⊎ (((r ≡ t) ⊎ ((r ≡ released_row k t n) ⊎ (r ≡ t))) × (T (bit (word_at b t) d) ⊎ T (bit (word_at b (acquired_row k t n (eqb k (kind join) && bit acted n))) d))))
flow_bit acted k t n b r d s h l = of (acquired_row k t n (eqb k (kind join) && bit acted n)) (released_row k t n) l
  where
    of : (acquired released : ℕ) → released < hub →
        T (bit (word_at (learned released t (learned t acquired b)) r) d)
        ↔ (T (bit (word_at b r) d) ⊎ (((r ≡ t) ⊎ ((r ≡ released) ⊎ (r ≡ t))) × (T (bit (word_at b t) d) ⊎ T (bit (word_at b acquired) d))))
    of acquired released l = (to, from)
      where
        first : (q : ℕ) → T (bit (word_at (learned t acquired b) q) d) ↔ (T (bit (word_at b q) d) ⊎ ((q ≡ t) × T (bit (word_at b acquired) d)))
        first q = learned_bit t acquired b q d s (omega arith)

        second : T (bit (word_at (learned released t (learned t acquired b)) r) d)
            ↔ (T (bit (word_at (learned t acquired b) r) d) ⊎ ((r ≡ released) × T (bit (word_at (learned t acquired b) t) d)))
        second = learned_bit released t (learned t acquired b) r d (learned_length t acquired b ∙ s) l

        known : T (bit (word_at (learned t acquired b) t) d) ↔ (T (bit (word_at b t) d) ⊎ T (bit (word_at b acquired) d))
        known = (λ x. ⊎_elim inl (λ y. inr y.1) ((first t).0 x), λ x. (first t).1 (⊎_elim inl (λ y. inr (refl, y)) x))

        to : T (bit (word_at (learned released t (learned t acquired b)) r) d) →
            T (bit (word_at b r) d) ⊎ (((r ≡ t) ⊎ ((r ≡ released) ⊎ (r ≡ t))) × (T (bit (word_at b t) d) ⊎ T (bit (word_at b acquired) d)))
        to x = ⊎_elim (λ y. ⊎_elim inl (λ z. inr (inl z.0, inr z.1)) ((first r).0 y)) (λ y. inr (inr (inl y.0), known.0 y.1)) (second.0 x)

        own : r ≡ t → T (bit (word_at b t) d) ⊎ T (bit (word_at b acquired) d) → T (bit (word_at (learned released t (learned t acquired b)) r) d)
        own e x = second.1 (inl (subst (λ (q : ℕ). T (bit (word_at (learned t acquired b) q) d)) (sym e) (known.1 x)))

        from : T (bit (word_at b r) d) ⊎ (((r ≡ t) ⊎ ((r ≡ released) ⊎ (r ≡ t))) × (T (bit (word_at b t) d) ⊎ T (bit (word_at b acquired) d))) →
            T (bit (word_at (learned released t (learned t acquired b)) r) d)
        from (inl x) = second.1 (inl ((first r).1 (inl x)))
        from (inr (inl e, x)) = own e x
        from (inr (inr (inl e), x)) = second.1 (inr (e, known.1 x))
        from (inr (inr (inr e), x)) = own e x

-- The counts of the columns that arrive

module _ (before after walked : ℕ) (l : List ℕ) where
  abbrev comes : ℕ → Bool
  comes c = bit after c && not (bit before c)

  abbrev counted : ℕ → List ℕ → List ℕ
  counted c x = cond (comes c) (set x c (walked - get_or x c 0)) x

  abbrev arrivals : ℕ → List ℕ
  arrivals n = turns n counted l

  counted_length : (c : ℕ) (x : List ℕ) → length (counted c x) ≡ length x
  counted_length c x = of (comes c)
    where
      of : (p : Bool) → length (cond p (set x c (walked - get_or x c 0)) x) ≡ length x
      of true = length-set x c _
      of false = refl

  arrivals_length : (n : ℕ) → length (arrivals n) ≡ length l
  unfolding turns
  arrivals_length zero = refl
  arrivals_length (suc n) = counted_length n (arrivals n) ∙ arrivals_length n

  counted_other : (c d : ℕ) (x : List ℕ) → ¬ (d ≡ c) → get_or (counted c x) d 0 ≡ get_or x d 0
  counted_other c d x n = of (comes c)
    where
      of : (p : Bool) → get_or (cond p (set x c (walked - get_or x c 0)) x) d 0 ≡ get_or x d 0
      of true = get_or-set_other x c d _ 0 n
      of false = refl

  counted_same : (c : ℕ) (x : List ℕ) → c < length x → get_or (counted c x) c 0 ≡ cond (comes c) (walked - get_or x c 0) (get_or x c 0)
  counted_same c x h = of (comes c)
    where
      of : (p : Bool) → get_or (cond p (set x c (walked - get_or x c 0)) x) c 0 ≡ cond p (walked - get_or x c 0) (get_or x c 0)
      of true = get_or-set_same x c _ 0 h
      of false = refl

  arrivals_later : (n d : ℕ) → n ≤ d → get_or (arrivals n) d 0 ≡ get_or l d 0
  unfolding turns
  arrivals_later zero d h = refl
  arrivals_later (suc n) d h = counted_other n d (arrivals n) (λ e. omega arith) ∙ arrivals_later n d (omega arith)

  arrivals_at : (n d : ℕ) → n ≤ length l → d < n → get_or (arrivals n) d 0 ≡ cond (comes d) (walked - get_or l d 0) (get_or l d 0)
  unfolding turns
  arrivals_at zero d h k = absurd (omega arith)
  arrivals_at (suc n) d h k = decided (equal d n) (arrivals_at n d (omega arith))
    where
      decided : {p : Bool} → Reflects (d ≡ n) p → (d < n → get_or (arrivals n) d 0 ≡ cond (comes d) (walked - get_or l d 0) (get_or l d 0)) →
          get_or (counted n (arrivals n)) d 0 ≡ cond (comes d) (walked - get_or l d 0) (get_or l d 0)
      decided (right e) f =
          rw e (counted_same n (arrivals n) (omega (arith, arrivals_length n)) ∙ ap (λ (x : ℕ). cond (comes n) (walked - x) x) (arrivals_later n n (omega arith)))
      decided (wrong m) f = counted_other n d (arrivals n) m ∙ f (omega arith)

  pub arrived_length : length (arrived_now before after walked l) ≡ length l
  unfolding arrived_now
  arrived_length = arrivals_length word_bits

  pub arrived_at : (d : ℕ) → length l ≡ word_bits → d < word_bits →
      get_or (arrived_now before after walked l) d 0 ≡ cond (bit after d && not (bit before d)) (walked - get_or l d 0) (get_or l d 0)
  unfolding arrived_now
  arrived_at d s h = arrivals_at word_bits d (omega arith) h

-- The walks in all

module _ (own : ℕ) (s : Lazy) where
  abbrev walks_below : ℕ → ℕ
  walks_below n = turns n (λ u m. m + walk_by own s u) 0

  sum_below : (Q : ℕ → ℕ → Type 0) (n : ℕ) → ((u : ℕ) → u < n → Q u (walk_by own s u)) → Summed Q n (walks_below n)
  unfolding turns
  sum_below Q zero f = nothing
  sum_below Q (suc n) f = add (sum_below Q n (λ u h. f u (omega arith))) (f n (omega arith))

  least_below : (R : ℕ → ℕ → Type 0) (k : ℕ) → ((u : ℕ) → u < k → (c : ℕ) → R u c → walk_by own s u ≤ c) → {n : ℕ} → Summed R k n → walks_below k ≤ n
  unfolding turns
  least_below R zero f nothing = omega arith
  least_below R (suc k) f (add {c = c} {s = m} x q) =
      let below : walks_below k ≤ m = least_below R k (λ u h. f u (omega arith)) x in
      let last : walk_by own s k ≤ c = f k (omega arith) c q in
      added (walks_below k) m (walk_by own s k) c below last
    where
      added : (a b c d : ℕ) → a ≤ b → c ≤ d → a + c ≤ b + d
      added a b c d h l = omega arith

pub sum_walks : (Q : ℕ → ℕ → Type 0) (own : ℕ) (s : Lazy) → ((u : ℕ) → u < tasks → Q u (walk_by own s u)) → Summed Q tasks (walks own s)
unfolding walks
sum_walks Q own s f = sum_below own s Q tasks f

pub walks_least : (R : ℕ → ℕ → Type 0) (own : ℕ) (s : Lazy) → ((u : ℕ) → u < tasks → (c : ℕ) → R u c → walk_by own s u ≤ c) →
    (n : ℕ) → Summed R tasks n → walks own s ≤ n
unfolding walks
walks_least R own s f n x = least_below own s R tasks f x

-- Words without bits

pub none_of_zero : (d : ℕ) → bit 0 d ≡ false
none_of_zero d = ap (λ (n : ℕ). eqb (n % 2) 1) (zero-div (2 ^ d))

pub fresh_words : (r d : ℕ) → bit (word_at (replicate hub 0) r) d ≡ false
fresh_words r d = ap (λ (x : ℕ). bit x d) (nothing_at hub r) ∙ none_of_zero d
  where
    nothing_at : (n r : ℕ) → word_at (replicate n 0) r ≡ 0
    nothing_at zero r = refl
    nothing_at (suc n) zero = refl
    nothing_at (suc n) (suc r) = nothing_at n r

pub zero_bits : (x : ℕ) → eqb x 0 ≡ true → (d : ℕ) → bit x d ≡ false
zero_bits x e d = rw (eqb-true x 0 e) (none_of_zero d)

-- The lower half of a word, and the bits of two words at once

pub low_bit : (x u : ℕ) → u < tasks → bit (x % 2 ^ tasks) u ≡ bit x u
low_bit x u h =
    let e : (tasks - 1 - u + 1) + u ≡ tasks = omega arith in
    ap (λ (n : ℕ). eqb (n % 2) 1) (ap (λ (k : ℕ). x % 2 ^ k / 2 ^ u) (sym e) ∙ field x (tasks - 1 - u + 1) u)
    ∙ ap (λ (n : ℕ). eqb n 1) (mod-mod-pow (x / 2 ^ u) (tasks - 1 - u) 1)

pub and_bit : (x y u : ℕ) → bit (bit_and x y) u ≡ (bit x u && bit y u)
and_bit x y u = ap (λ (n : ℕ). eqb (n % 2) 1) (and_shr x y u ∙ and_step (x / 2 ^ u) (y / 2 ^ u)) ∙ low _ (x / 2 ^ u) (y / 2 ^ u)
  where
    of : (a b : ℕ) → a < 2 → b < 2 → eqb (min a b) 1 ≡ (eqb a 1 && eqb b 1)
    of zero zero h l = refl
    of zero (suc zero) h l = refl
    of zero (suc (suc b)) h l = absurd (omega arith)
    of (suc zero) zero h l = refl
    of (suc zero) (suc zero) h l = refl
    of (suc zero) (suc (suc b)) h l = absurd (omega arith)
    of (suc (suc a)) b h l = absurd (omega arith)

    low : (p a b : ℕ) → eqb ((p * 2 + min (a % 2) (b % 2)) % 2) 1 ≡ (eqb (a % 2) 1 && eqb (b % 2) 1)
    low p a b = let e : (p * 2 + min (a % 2) (b % 2)) % 2 ≡ min (a % 2) (b % 2) = omega arith in rw e (of (a % 2) (b % 2) (omega arith) (omega arith))

-- Whether some pair has no path

any_below_lem : {P : ℕ → Type 0} {p : ℕ → Bool} (n : ℕ) → ((u : ℕ) → u < n → Reflects (P u) (p u)) → Reflects ((u : ℕ) × (u < n) × P u) (any_below n p)
unfolding turns
any_below_lem zero f = wrong (λ x. omega (arith, x.1))
any_below_lem {P} (suc n) f = same_as to from (either (any_below_lem n (λ u h. f u (omega arith))) (f n (omega arith)))
  where
    to : ((u : ℕ) × (u < n) × P u) ⊎ P n → (u : ℕ) × (u < suc n) × P u
    to (inl (u, h, x)) = (u, omega arith, x)
    to (inr x) = (n, omega arith, x)

    from : (u : ℕ) × (u < suc n) × P u → ((u : ℕ) × (u < n) × P u) ⊎ P n
    from (u, h, x) = decided (equal u n)
      where
        decided : {q : Bool} → Reflects (u ≡ n) q → ((u : ℕ) × (u < n) × P u) ⊎ P n
        decided (right e) = inr (subst P e x)
        decided (wrong d) = inl (u, omega arith, x)

pub unordered_test : (pairs own : ℕ) →
    Reflects ((u : ℕ) × (u < tasks) × T (bit pairs (column by_write u)) × (¬ T (bit own (column by_write u)))) (unordered pairs own)
unordered_test pairs own =
    same_as (λ x. (x.0, x.1, x.2.0, x.2.1)) (λ x. (x.0, x.1, (x.2, x.3)))
    (any_below_lem tasks (λ u h. both (by_test (bit pairs (column by_write u))) (fails (by_test (bit own (column by_write u))))))
