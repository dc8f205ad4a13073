-- An `owned` stays at its place, however many neighbours are swapped. Assumes nothing.
use mathlib.Core.Path.{◌≡◌, refl, sym, ◌∙◌, ap}
use mathlib.Core.Bool.{true, true≢false}
use mathlib.Core.List.{List}
use mathlib.Core.Option.{some}
use Prim.Native.Nat.{ℕ, zero, suc}
use lib.ListN.{get_elem?}
use Rattle.theory.specs.declared.record.Record.{Record}
use Rattle.theory.specs.order.Recording.{Event, event_of}
use Rattle.theory.specs.acceptance.Owning.{is_owned}
use Rattle.requests.specs.swapping.Unrelated.{UnrelatedRecords, MissedRecords}
use Rattle.requests.specs.swapping.Swaps.{Swapped, these, later, moved, Swaps, no_swap, swap_then, moved_by}
use Rattle.requests.specs.swapping.Compared.{OwnedStays}
use Rattle.requests.proofs.swapping.Independent.{Separates, Independent, either_way, unrelated_separates, missed_separates}

-- it is none of the two that are swapped
not_swapped : {q r : Record} {f : Event} → Independent (event_of q) f → some q ≡ some r → ¬ (is_owned (event_of r) ≡ true)
not_swapped {q} {r} z e w = let p : q ≡ r = cc in true≢false (sym w ∙ (ap (λ (x : Record). is_owned (event_of x)) (sym p) ∙ z.unowned))

module _ {R : Record → Record → Type 0} (i : Separates R) where
  stays_once : {rs rs' : List Record} (s : Swapped R rs rs') (k : ℕ) (r : Record) → get_elem? rs k ≡ some r → is_owned (event_of r) ≡ true → (moved s k ≡ k) × (get_elem? rs' k ≡ some r)
  stays_once (these {x = p} {y = q} z) zero r e w = absurd (not_swapped (i.independent p q z) e w)
  stays_once (these {x = p} {y = q} z) (suc zero) r e w = absurd (not_swapped (either_way (i.independent p q z)) e w)
  stays_once (these z) (suc (suc k)) r e w = (refl, e)
  stays_once (later s) zero r e w = (refl, e)
  stays_once (later s) (suc k) r e w = let (a, b) = stays_once s k r e w in (ap suc a, b)

  stays : {rs rs' : List Record} (s : Swaps R rs rs') (k : ℕ) (r : Record) → get_elem? rs k ≡ some r → is_owned (event_of r) ≡ true → moved_by s k ≡ k
  stays no_swap k r e w = refl
  stays (swap_then s ss) k r e w = let (a, b) = stays_once s k r e w in ap (moved_by ss) a ∙ stays ss k r b w

pub owned_stays : OwnedStays UnrelatedRecords
owned_stays rs rs' s k r e w = stays unrelated_separates s k r e w

-- with a miss
pub owned_stays_missed : OwnedStays MissedRecords
owned_stays_missed rs rs' s k r e w = stays missed_separates s k r e w
