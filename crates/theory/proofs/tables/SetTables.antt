-- The sets are exact: a slot's bit is set just where order from the access that the slot keeps has come to the row's node. Assumes nothing.
use mathlib.Core.Path.{◌≡◌, refl, sym, ◌∙◌, ap, subst}
use mathlib.Core.Bool.{Bool, true, false, cond}
use mathlib.Core.Logic.{◌↔◌, ◌⊎◌, inl, inr, ◌≢◌}
use mathlib.Core.List.{List, [], ◌∷◌, ◌++◌}
use Prim.Native.Nat.{ℕ, ◌<◌, zero-le}
use native.Mathlib.Omega.{arith}
use lib.Bits.{bit_or}
use lib.Dec.{T, eqb}
use lib.ListN.{length, replicate}
use Rattle.theory.specs.order.Recording.{Op, Event, act, lost, series, size_of, kind}
use Rattle.theory.specs.fillings.Completion.{bit, Filling, fills}
use Rattle.theory.specs.tables.Rows.{cell_count, cell, note_acted, mark, hub, row_count, acted_row}
use Rattle.theory.specs.history.History.{askers, kept_for, slot, slots, under_each}
use Rattle.theory.specs.tables.Reckonings.{slot_words, has_slot, clear_slot, add_slot, set_own, set_act, slot_word, slot_place}
use Rattle.theory.specs.order.Limits.{tasks}
use Rattle.theory.proofs.basics.Reflects.{Reflects, right, wrong, equal}
use Rattle.theory.proofs.order.Carry.{Node, due, Releases}
use Rattle.theory.proofs.tables.Rows.{Sized, Knows, knows_same, sized_fresh}
use Rattle.theory.proofs.tables.Words.{joins_or}
use Rattle.theory.proofs.tables.Acts.{sized_flow, flow_acted, sized_note, note_other, note_cell, sized_afresh, afresh_own, afresh_cleared, afresh_other, afresh_acted}
use Rattle.theory.proofs.tables.Marks.{sized_mark}
use Rattle.theory.proofs.tables.Nodes.{row, InRange, due_in, row_below, row_one, released_row_lem, released_in}
use Rattle.theory.proofs.order.Tests.{Some, some_snoc, snoc_some, snoc_last}
use Rattle.theory.proofs.fillings.Came.{Came, Newly}
use Rattle.theory.proofs.fillings.HasActed.{Acted}
use Rattle.theory.proofs.tables.Exact.{ProperMask, Exact, Owned, ExactActed, exact_act, exact_mark, fresh_exact, acted_same, acted_act, acted_mark, fresh_acted}
use Rattle.theory.proofs.history.Slots.{InSlot, slot_below, kept_on, Under, WroteTo, under_each_lem, in_under, under_in_lem, no_slot_mark}

-- Definition

-- a set's column follows the access that its slot keeps: the latest in the slot
abbrev pub LastInSlot : ℕ → Event → List Event → Type 0
LastInSlot s e after = InSlot s e × (¬ Some (InSlot s) after)

-- a word knows of a slot where it has the slot's bit
abbrev pub HasBit : ℕ → ℕ → Type 0
HasBit s x = T (bit x (slot_place s))

pub record ExactSets (w : Filling) (es : List Event) (b : List ℕ) : Type 0 where
  pub sized : Sized slot_words b
  pub column : (s : ℕ) → s < slots → Exact (HasBit s) w (LastInSlot s) es slot_words b 0 (slot_word s)
  pub acting : ExactActed w es slot_words b

word_below : {s : ℕ} → s < slots → slot_word s < slot_words
word_below h = omega arith

-- Acts

-- a later record displaces the access only where it is in the slot itself
keeps : (s : ℕ) (x e : Event) (after : List Event) → LastInSlot s e (after ++ (x ∷ [])) ↔ ((¬ InSlot s x) × LastInSlot s e after)
keeps s x e after = (λ k. (λ q. k.1 (snoc_last after x q), (k.0, λ q. k.1 (snoc_some x q))), λ k. (k.1.0, λ q. apart k.0 k.1.1 (some_snoc after q)))
  where
    apart : ¬ InSlot s x → ¬ Some (InSlot s) after → Some (InSlot s) after ⊎ InSlot s x → ⊥
    apart n m (inl q) = m q
    apart n m (inr q) = n q

module _ {w : Filling} {es : List Event} {b : List ℕ} {t n : ℕ} (o : Op) (x : ExactSets w es b) (ht : t < tasks) (hn : n < size_of (series o)) where
  -- a slot that the act is not in
  unowned : {b' : List ℕ} (s : ℕ) → s < slots → ¬ InSlot s (act o t n) → ((r : ℕ) → r < row_count → has_slot b' r s ≡ has_slot b r s) →
      Owned (HasBit s) w (LastInSlot s) (¬ InSlot s (act o t n)) es (act o t n) t slot_words b' 0 (slot_word s)
  unowned {b'} s l out same =
      record {
        cells = λ m r. (λ a. inl (out, ((x.column s l).cells m r).0 ((known (row m) (near r)).0 a)), λ y. (known (row m) (near r)).1 (before m r y));
        hub = λ f. (λ a. (out, ((x.column s l).hub f).0 ((known hub (omega arith)).0 a)), λ y. (known hub (omega arith)).1 (((x.column s l).hub f).1 y.1));
      }
    where
      near : {m : Node} → InRange m → row m < row_count
      near r = let h = row_below r in omega arith

      known : (r : ℕ) → r < row_count → Knows (HasBit s) slot_words b' r (slot_word s) ↔ Knows (HasBit s) slot_words b r (slot_word s)
      known r h = (λ a. record { knows = subst T (same r h) a.knows }, λ a. record { knows = subst T (sym (same r h)) a.knows })

      before : (m : Node) → InRange m → ((¬ InSlot s (act o t n)) × Came w (LastInSlot s) es 0 m) ⊎ (Newly (LastInSlot s) es (act o t n) 0 × (m ≡ due t)) → Knows (HasBit s) slot_words b (row m) (slot_word s)
      before m r (inl (_, d)) = ((x.column s l).cells m r).1 d
      before m r (inr ((_, (q, _)), e)) = absurd (out q)

  -- a slot that the act is in starts anew: its own row has it, and no other
  own_slot : {b' : List ℕ} (s : ℕ) → s < slots → InSlot s (act o t n) → has_slot b' t s ≡ true → ((r : ℕ) → r < row_count → r ≢ t → has_slot b' r s ≡ false) →
      Owned (HasBit s) w (LastInSlot s) (¬ InSlot s (act o t n)) es (act o t n) t slot_words b' 0 (slot_word s)
  own_slot {b'} s l inside here elsewhere =
      record { cells = λ m r. decided m r (equal (row m) t); hub = λ _. (λ y. absurd (cleared hub (omega arith) (λ e. omega arith) y), λ y. absurd (y.0 inside)) }
    where
      newly : Newly (LastInSlot s) es (act o t n) 0
      newly = (zero-le, (inside, λ q. elim q [ ]))

      cleared : (r : ℕ) → r < row_count → ¬ (r ≡ t) → ¬ Knows (HasBit s) slot_words b' r (slot_word s)
      cleared r h apart y = subst T (elsewhere r h apart) y.knows

      decided : {c : Bool} (m : Node) → InRange m → Reflects (row m ≡ t) c →
          Knows (HasBit s) slot_words b' (row m) (slot_word s) ↔ (((¬ InSlot s (act o t n)) × Came w (LastInSlot s) es 0 m) ⊎ (Newly (LastInSlot s) es (act o t n) 0 × (m ≡ due t)))
      decided m r (right q) = (λ y. inr (newly, row_one r (due_in ht) q), λ y. record { knows = rw q (subst T (sym here) tt) })
      decided m r (wrong apart) = (λ y. let h = row_below r in absurd (cleared (row m) (omega arith) apart y), λ y. absurd (none y))
        where
          none : ((¬ InSlot s (act o t n)) × Came w (LastInSlot s) es 0 m) ⊎ (Newly (LastInSlot s) es (act o t n) 0 × (m ≡ due t)) → ⊥
          none (inl (out, _)) = out inside
          none (inr (_, q)) = apart (ap row q)

  -- the table before it is noted that the task has acted
  abbrev afresh : ℕ → List ℕ → List ℕ
  afresh s b = add_slot t s (clear_slot s b)

  abbrev own_table : List ℕ
  own_table = under_each afresh (kind o) n t b

  -- a table of its size, in which those who had acted have
  record Whole (b' : List ℕ) : Type 0 where
    sized : Sized slot_words b'
    acted : (u : ℕ) → u < tasks → cell slot_words b' acted_row u ≡ cell slot_words b acted_row u

  record Begun (s : ℕ) (b' : List ℕ) : Type 0 where
    here : has_slot b' t s ≡ true
    elsewhere : (r : ℕ) → r < row_count → r ≢ t → has_slot b' r s ≡ false

  record Kept (s : ℕ) (b' : List ℕ) : Type 0 where
    same : (r : ℕ) → r < row_count → has_slot b' r s ≡ has_slot b r s

  wrote : (s : ℕ) → s < slots → WroteTo afresh (kind o) n t Whole (Begun s) (Kept s) s (length askers) own_table
  wrote s l =
      under_each_lem afresh (kind o) n t Whole (Begun s) (Kept s) s
      (λ a b' ha c y.
      let q = below a ha c in
      record { sized = sized_afresh y.sized t (slot a n t) ht q; acted = λ u h. afresh_acted y.sized t (slot a n t) ht q u (omega arith) ∙ y.acted u h })
      (λ a b' ha c e y.
      let q = below a ha c in
      rw e (record { here = afresh_own y.sized t (slot a n t) ht q; elsewhere = λ r h d. afresh_cleared y.sized t (slot a n t) ht q r h d }))
      (λ a b' ha c d y.
      let other : (r : ℕ) → r < row_count → has_slot (afresh (slot a n t) b') r s ≡ has_slot b' r s = λ r h. afresh_other y.sized t (slot a n t) ht (below a ha c) r s h l d in (
        λ z. record { here = other t (omega arith) ∙ z.here; elsewhere = λ r h q. other r h ∙ z.elsewhere r h q },
        λ z. record { same = λ r h. other r h ∙ z.same r h },
      ))
      b
      (record { sized = x.sized; acted = λ u h. refl })
      (record { same = λ r h. refl })
    where
      below : (a : ℕ) → a < length askers → T (kept_for (kind o) a) → slot a n t < slots
      below a ha c = slot_below ha (kept_on o a hn c) ht

  record Own (b' : List ℕ) : Type 0 where
    sized : Sized slot_words b'
    column : (s : ℕ) → s < slots → Owned (HasBit s) w (LastInSlot s) (¬ InSlot s (act o t n)) es (act o t n) t slot_words b' 0 (slot_word s)
    acted : (u : ℕ) → u < tasks → cell slot_words b' acted_row u ≡ cell slot_words b acted_row u

  own_part : Own own_table
  own_part = record { sized = (wrote 0 (omega arith)).0.sized; column = λ s l. of s l (wrote s l).1; acted = (wrote 0 (omega arith)).0.acted }
    where
      of : (s : ℕ) → s < slots →
          (Under afresh (kind o) n t (length askers) s × Begun s own_table) ⊎ ((¬ Under afresh (kind o) n t (length askers) s) × Kept s own_table) →
          Owned (HasBit s) w (LastInSlot s) (¬ InSlot s (act o t n)) es (act o t n) t slot_words own_table 0 (slot_word s)
      of s l (inl (y, z)) = own_slot s l (under_in_lem o ht hn y) z.here z.elsewhere
      of s l (inr (y, z)) = unowned s l (λ q. y (in_under q)) z.same

  -- noting it changes no other row
  noted : {b' : List ℕ} → Own b' → (s : ℕ) → s < slots → Owned (HasBit s) w (LastInSlot s) (¬ InSlot s (act o t n)) es (act o t n) t slot_words (note_acted slot_words t b') 0 (slot_word s)
  noted {b'} y s l =
      record {
        cells = λ m r. (λ a. ((y.column s l).cells m r).0 ((same (row m) (near r)).0 a), λ d. (same (row m) (near r)).1 (((y.column s l).cells m r).1 d));
        hub = λ f. (λ a. ((y.column s l).hub f).0 ((same hub (λ e. omega arith)).0 a), λ d. (same hub (λ e. omega arith)).1 (((y.column s l).hub f).1 d));
      }
    where
      near : {m : Node} → InRange m → ¬ (row m ≡ acted_row)
      near r e = let h = row_below r in omega arith

      same : (r : ℕ) → ¬ (r ≡ acted_row) → Knows (HasBit s) slot_words (note_acted slot_words t b') r (slot_word s) ↔ Knows (HasBit s) slot_words b' r (slot_word s)
      same r d = knows_same (note_other slot_words b' t r (slot_word s) (omega arith) (omega arith) d)

  own_sized : Sized slot_words (set_own (kind o) t n b)
  own_sized = sized_note own_part.sized t

  own_acting : ExactActed w (es ++ (act o t n ∷ [])) slot_words (set_own (kind o) t n b)
  own_acting = acted_act o t n (λ u hu. note_cell own_part.sized t u (omega arith) (omega arith) ∙ ap (cond (eqb u t) 1) (own_part.acted u hu)) x.acting

  pub sets_act : ((u : ℕ) → Releases (act o t n) (due u) → (u ≡ t) ⊎ (¬ Acted w u es)) → ExactSets w (es ++ (act o t n ∷ [])) (set_act (fills w) (kind o) t n b)
  sets_act starts =
      record {
        sized = sized_flow own_sized bit_or (fills w) _ _ t;
        column = λ s l. exact_act (joins_or (slot_place s)) (keeps s (act o t n)) starts ht hn (word_below l) own_sized own_acting (x.column s l).ended (noted own_part s l);
        acting = acted_same (λ u hu. flow_acted bit_or (fills w) _ own_sized (rw (released_row_lem o t n) (row_below (released_in o ht hn))) ht (omega arith)) own_acting;
      }

-- Marks

pub sets_mark : {w : Filling} {es : List Event} {b : List ℕ} (mask : ℕ) → (¬ (w mask ≡ 0) → T (fills w)) → ProperMask (w mask) → ExactSets w es b → ExactSets w (es ++ (lost mask ∷ [])) (mark bit_or slot_words (w mask) b)
sets_mark {w} mask asked f x =
    record {
      sized = sized_mark x.sized bit_or (w mask);
      column = λ s l. exact_mark mask (keeps s (lost mask)) no_slot_mark (joins_or (slot_place s)) x.sized (omega arith) (word_below l) asked f (x.column s l);
      acting = acted_mark bit_or mask x.sized (omega arith) f x.acting;
    }

-- The fresh table

pub fresh_sets_lem : {w : Filling} → ExactSets w [] (replicate (cell_count slot_words) 0)
fresh_sets_lem = record { sized = sized_fresh slot_words; column = λ s l. fresh_exact (joins_or (slot_place s)).nothing (word_below l); acting = fresh_acted slot_words (omega arith) }
