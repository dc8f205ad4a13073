-- An access that begins a column anew: that column, and no other. Assumes nothing.
use mathlib.Core.Path.{◌≡◌, refl, sym, ◌∙◌, subst}
use mathlib.Core.Bool.{Bool, true, false, cond, ◌&&◌}
use mathlib.Core.Logic.{◌≢◌}
use Prim.Native.Nat.{ℕ, ◌<◌}
use native.Mathlib.Omega.{arith}
use borrow.Author.Tests.{eq-eqb, ne_eqb}
use lib.Dec.{T, eqb}
use lib.ListN.{length, get_or, length-set}
use lib.Seq.{get_or-set_same, get_or-set_other}
use Rattle.theory.specs.declared.record.Record.{Record}
use Rattle.theory.specs.order.Limits.{tasks}
use Rattle.theory.specs.order.Recording.{numbered_kind}
use Rattle.theory.specs.fillings.Completion.{bit}
use Rattle.theory.specs.history.History.{asker, kind_clashes}
use Rattle.theory.specs.tables.Rows.{hub}
use Rattle.theory.specs.tables.Reckonings.{word_bits}
use Rattle.requests.specs.lazy.Fold.{Lazy, word_at, by_end, by_write, column, asker_on, clear_column, add_column, begin_column, keep_on, keep_anew}
use Rattle.theory.proofs.basics.Reflects.{Reflects, right, wrong, equal, by_test, is_true}
use Rattle.theory.proofs.tables.Words.{with_bit_lem, without_bit_lem}
use Rattle.requests.proofs.lazy.Columns.{clear_length, clear_bit, add_length, add_bit}
use Rattle.requests.proofs.lazy.Tracks.{Untouched}

-- Definition

-- the tables have their sizes
pub record Whole (s : Lazy) : Type 0 where
  pub nodes : length s.nodes ≡ hub
  pub counts : length s.counts ≡ word_bits

-- the column is as it was
pub record Alike (c : ℕ) (s s' : Lazy) : Type 0 where
  pub untouched : Untouched c s s'
  pub known : bit s'.walk.known c ≡ bit s.walk.known c

-- column c has begun, at row u alone
pub record Begun (c u : ℕ) (s : Lazy) : Type 0 where
  pub pairs : bit s.walk.pairs c ≡ true
  pub known : bit s.walk.known c ≡ false
  pub nodes : (r : ℕ) → r < hub → bit (word_at s.nodes r) c ≡ eqb r u
  pub counts : get_or s.counts c 0 ≡ s.walk.walked

pub alike : (c : ℕ) (s : Lazy) → Alike c s s
alike c s = record { untouched = record { pairs = refl; nodes = λ r h. refl; counts = refl; walked = refl }; known = refl }

pub alike_then : {c : ℕ} {s s' s'' : Lazy} → Alike c s s' → Alike c s' s'' → Alike c s s''
alike_then x y =
    record {
      untouched =
          record {
            pairs = y.untouched.pairs ∙ x.untouched.pairs;
            nodes = λ r h. y.untouched.nodes r h ∙ x.untouched.nodes r h;
            counts = y.untouched.counts ∙ x.untouched.counts;
            walked = y.untouched.walked ∙ x.untouched.walked;
          };
      known = y.known ∙ x.known;
    }

begun_still : {c u : ℕ} {s s' : Lazy} → Begun c u s → Alike c s s' → Begun c u s'
begun_still x y =
    record {
      pairs = y.untouched.pairs ∙ x.pairs;
      known = y.known ∙ x.known;
      nodes = λ r h. y.untouched.nodes r h ∙ x.nodes r h;
      counts = y.untouched.counts ∙ (x.counts ∙ sym y.untouched.walked);
    }

-- One column

module _ {s : Lazy} (w : Whole s) (c u : ℕ) (hc : c < word_bits) (hu : u < tasks) where
  cleared : length (clear_column c s.nodes) ≡ hub
  cleared = clear_length c s.nodes ∙ w.nodes

  begin_whole : Whole (begin_column c u s)
  begin_whole = record { nodes = add_length c u (clear_column c s.nodes) ∙ cleared; counts = length-set s.counts c _ ∙ w.counts }

  begin_nodes : (d r : ℕ) → d < word_bits → r < hub →
      bit (word_at (add_column c u (clear_column c s.nodes)) r) d ≡ cond (eqb r u && eqb d c) true (cond (eqb d c) false (bit (word_at s.nodes r) d))
  begin_nodes d r hd hr =
      rw (add_bit c d (clear_column c s.nodes) u r cleared (omega arith) hr hc hd, clear_bit c d s.nodes r w.nodes hr hc hd)

  begin_own : Begun c u (begin_column c u s)
  begin_own =
      record {
        pairs = with_bit_lem c c _ hc hc ∙ here true (bit s.walk.pairs c);
        known = without_bit_lem c c _ hc hc ∙ here false (bit s.walk.known c);
        nodes = λ r h. begin_nodes c r hc h ∙ (rw (eq-eqb c c refl) (of (eqb r u)));
        counts = get_or-set_same s.counts c _ 0 (omega (arith, w.counts));
      }
    where
      here : (a b : Bool) → cond (eqb c c) a b ≡ a
      here a b = rw (eq-eqb c c refl)

      of : (b : Bool) → cond (b && true) true false ≡ b
      of true = refl
      of false = refl

  begin_other : (d : ℕ) → d < word_bits → d ≢ c → Alike d s (begin_column c u s)
  begin_other d hd n =
      record {
        untouched =
            record {
              pairs = with_bit_lem c d _ hc hd ∙ there true (bit s.walk.pairs d);
              nodes = λ r h. begin_nodes d r hd h ∙ (rw (ne_eqb d c n) (of (eqb r u) (bit (word_at s.nodes r) d)));
              counts = get_or-set_other s.counts c d _ 0 n;
              walked = refl;
            };
        known = without_bit_lem c d _ hc hd ∙ there false (bit s.walk.known d);
      }
    where
      there : (a b : Bool) → cond (eqb d c) a b ≡ b
      there a b = rw (ne_eqb d c n)

      of : (b x : Bool) → cond (b && false) true x ≡ x
      of true x = refl
      of false x = refl

-- On both sides

module _ (q : Record) (k u : ℕ) (hu : u < tasks) where
  -- it clashes with what asks on the side
  abbrev pub Clash : ℕ → Type 0
  Clash side = T (kind_clashes (numbered_kind k) (asker (asker_on q side)))

  module _ {s : Lazy} (w : Whole s) (side : ℕ) (hs : side < 2) where
    on_whole : Whole (keep_on q k u side s)
    unfolding keep_on
    on_whole = decided (kind_clashes (numbered_kind k) (asker (asker_on q side)))
      where
        decided : (b : Bool) → Whole (cond b (begin_column (column side u) u s) s)
        decided true = begin_whole w (column side u) u (omega arith) hu
        decided false = w

    on_own : Clash side → Begun (column side u) u (keep_on q k u side s)
    unfolding keep_on
    on_own t = rw (is_true (by_test (kind_clashes (numbered_kind k) (asker (asker_on q side)))) t) (begin_own w (column side u) u (omega arith) hu)

    on_other : (d : ℕ) → d < word_bits → d ≢ column side u → Alike d s (keep_on q k u side s)
    unfolding keep_on
    on_other d hd n = decided (kind_clashes (numbered_kind k) (asker (asker_on q side)))
      where
        decided : (b : Bool) → Alike d s (cond b (begin_column (column side u) u s) s)
        decided true = begin_other w (column side u) u (omega arith) hu d hd n
        decided false = alike d s

    on_none : ¬ Clash side → (d : ℕ) → Alike d s (keep_on q k u side s)
    unfolding keep_on
    on_none n d = decided (by_test (kind_clashes (numbered_kind k) (asker (asker_on q side))))
      where
        decided : {b : Bool} → Reflects (Clash side) b → Alike d s (cond b (begin_column (column side u) u s) s)
        decided (right t) = absurd (n t)
        decided (wrong f) = alike d s

  module _ {s : Lazy} (w : Whole s) where
    pub keep_whole : Whole (keep_anew q k u s)
    keep_whole = on_whole (on_whole w by_end (omega arith)) by_write (omega arith)

    -- the task's columns on the sides that it clashes with
    pub keep_own : (side : ℕ) → side < 2 → Clash side → Begun (column side u) u (keep_anew q k u s)
    keep_own side h t = decided (equal side by_end)
      where
        decided : {b : Bool} → Reflects (side ≡ by_end) b → Begun (column side u) u (keep_anew q k u s)
        decided (right e) =
            begun_still (on_own w side h t)
            (subst (λ (i : ℕ). Alike (column side u) (keep_on q k u i s) (keep_anew q k u s)) (sym e)
            (on_other (on_whole w by_end (omega arith)) by_write (omega arith) (column side u) (omega arith) (λ z. omega arith)))
        decided (wrong n) =
            let e : side ≡ by_write = omega arith in
            subst (λ (i : ℕ). Begun (column i u) u (keep_anew q k u s)) (sym e) (on_own (on_whole w by_end (omega arith)) by_write (omega arith) (subst Clash e t))

    -- and on the others, and of other tasks, nothing
    pub keep_off : (side : ℕ) → side < 2 → ¬ Clash side → Alike (column side u) s (keep_anew q k u s)
    keep_off side h n = decided (equal side by_end)
      where
        decided : {b : Bool} → Reflects (side ≡ by_end) b → Alike (column side u) s (keep_anew q k u s)
        decided (right e) =
            alike_then (on_none w by_end (omega arith) (λ t. n (subst Clash (sym e) t)) (column side u))
            (on_other (on_whole w by_end (omega arith)) by_write (omega arith) (column side u) (omega arith) (λ z. omega arith))
        decided (wrong m) =
            let e : side ≡ by_write = omega arith in
            alike_then (on_other w by_end (omega arith) (column side u) (omega arith) (λ z. omega arith))
            (on_none (on_whole w by_end (omega arith)) by_write (omega arith) (λ t. n (subst Clash (sym e) t)) (column side u))

    pub keep_other : (side u' : ℕ) → side < 2 → u' < tasks → u' ≢ u → Alike (column side u') s (keep_anew q k u s)
    keep_other side u' h hu' n =
        alike_then (on_other w by_end (omega arith) (column side u') (omega arith) (λ z. n (omega arith)))
        (on_other (on_whole w by_end (omega arith)) by_write (omega arith) (column side u') (omega arith) (λ z. n (omega arith)))

-- who has acted is not touched
pub keep_acted : (q : Record) (k u : ℕ) (s : Lazy) → (keep_anew q k u s).walk.acted ≡ s.walk.acted
unfolding keep_on
keep_acted q k u s = on_acted by_write (keep_on q k u by_end s) ∙ on_acted by_end s
  where
    on_acted : (side : ℕ) (s : Lazy) → (keep_on q k u side s).walk.acted ≡ s.walk.acted
    on_acted side s = decided (kind_clashes (numbered_kind k) (asker (asker_on q side)))
      where
        decided : (b : Bool) → (cond b (begin_column (column side u) u s) s).walk.acted ≡ s.walk.acted
        decided true = refl
        decided false = refl
