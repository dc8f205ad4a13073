-- Paths by what lies between: `Leads e mid f` says that a path leads from e to f in every list that has e, then mid, then f.
-- Such paths survive whatever is put for the marks between, and do not need the marks. Assumes nothing.
use mathlib.Core.Path.{◌≡◌, refl, ap}
use mathlib.Core.List.{List, [], ◌∷◌, ◌++◌}
use Prim.Native.Nat.{ℕ}
use Rattle.theory.specs.order.Recording.{Event, act, lost}
use Rattle.theory.specs.order.Path.{Step}
use Rattle.theory.specs.fillings.Completion.{Filled, done, keep, fill, fill_with, nothing}

-- Definition

pub data Leads : Event → List Event → Event → Type 0 where
  last : {e f : Event} → Step e f → Leads e [] f
  over : {e x f : Event} {mid : List Event} → Leads e mid f → Leads e (x ∷ mid) f
  via : {e x f : Event} {mid : List Event} → Step e x → Leads x mid f → Leads e (x ∷ mid) f

-- `Is g mask gs`: gs is what g has for the mask
pub data Is (g : ℕ → List Event) (mask : ℕ) : List Event → Type 0 where
  is : Is g mask (g mask)

-- Properties

pub over_list : {e f : Event} {mid : List Event} (gs : List Event) → Leads e mid f → Leads e (gs ++ mid) f
over_list [] p = p
over_list (g ∷ gs) p = over (over_list gs p)

-- a path survives in whatever is filled in
pub leads_survives : {F : ℕ → List Event → Type 0} {mid mid' : List Event} {e f : Event} → Filled F mid mid' → Leads e mid f → Leads e mid' f
leads_survives done p = p
leads_survives (keep c) (over p) = over (leads_survives c p)
leads_survives (keep c) (via s p) = via s (leads_survives c p)
leads_survives (fill {gs = gs} x c) (over p) = over_list gs (leads_survives c p)
leads_survives (fill x c) (via s p) = elim s [ ]

-- a path needs no mark
pub leads_as_arrived : {mid mid' : List Event} {e f : Event} → Filled (Is nothing) mid mid' → Leads e mid' f → Leads e mid f
leads_as_arrived done p = p
leads_as_arrived (keep c) (over p) = over (leads_as_arrived c p)
leads_as_arrived (keep c) (via s p) = via s (leads_as_arrived c p)
leads_as_arrived (fill is c) p = over (leads_as_arrived c p)

pub filled_is : {g : ℕ → List Event} {es fs : List Event} → Filled (Is g) es fs → fs ≡ fill_with g es
filled_is done = refl
filled_is (keep {o = o} {t = t} {n = n} c) = ap (λ (l : List Event). act o t n ∷ l) (filled_is c)
filled_is (fill {gs = gs} is c) = ap (λ (l : List Event). gs ++ l) (filled_is c)

pub filled_with : (g : ℕ → List Event) (es : List Event) → Filled (Is g) es (fill_with g es)
filled_with g [] = done
filled_with g (act o t n ∷ es) = keep (filled_with g es)
filled_with g (lost mask ∷ es) = fill is (filled_with g es)
