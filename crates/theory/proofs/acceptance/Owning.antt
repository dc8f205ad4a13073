-- The profile, and who holds a semaphore and who gave it last, after one more record. Assumes nothing.
use mathlib.Core.Path.{◌≡◌, refl, sym, ◌∙◌, ap}
use mathlib.Core.Bool.{Bool, true, false, cond, ◌||◌, or-false, or_assoc, true≢false}
use mathlib.Core.List.{List, [], ◌∷◌, ◌++◌}
use Prim.Native.Nat.{ℕ}
use Rattle.theory.specs.order.Recording.{Op, take, give, Event, act, semaphore, series}
use Rattle.theory.specs.acceptance.Owning.{is_owned, under, since, Who, nobody, later_who, who_since}

-- The profile

-- the recording is under the profile, or comes under it by the record
pub under_snoc : (es : List Event) (e : Event) → under (es ++ (e ∷ [])) ≡ (under es || is_owned e)
under_snoc [] e = or-false (is_owned e)
under_snoc (d ∷ es) e = ap (λ (b : Bool). is_owned d || b) (under_snoc es e) ∙ sym (or_assoc (is_owned d) (under es) (is_owned e))

pub under_kept : (es : List Event) (e : Event) → is_owned e ≡ false → under (es ++ (e ∷ [])) ≡ under es
under_kept es e q = under_snoc es e ∙ rw (q, or-false (under es))

-- What came since

-- a record that is not under the profile already is none that came since, an `owned` neither
pub since_snoc : (es : List Event) (e : Event) → since (es ++ (e ∷ [])) ≡ cond (under es) (since es ++ (e ∷ [])) []
since_snoc [] e = first (is_owned e)
  where
    first : (b : Bool) → ◌≡◌ {A = List Event} (cond b [] []) []
    first true = refl
    first false = refl
since_snoc (d ∷ es) e = decided (is_owned d) (since_snoc es e)
  where
    decided : (b : Bool) → since (es ++ (e ∷ [])) ≡ cond (under es) (since es ++ (e ∷ [])) [] →
        cond b (es ++ (e ∷ [])) (since (es ++ (e ∷ []))) ≡ cond (b || under es) (cond b es (since es) ++ (e ∷ [])) []
    decided true q = refl
    decided false q = q

pub none_since : (es : List Event) → under es ≡ false → since es ≡ []
none_since [] q = refl
none_since (d ∷ es) q = decided (is_owned d) (none_since es) q
  where
    decided : (b : Bool) → (under es ≡ false → since es ≡ []) → (b || under es) ≡ false → cond b es (since es) ≡ []
    decided true k q = absurd (true≢false q)
    decided false k q = k q

-- Holders and last givers

-- a take or a give of semaphore s: who holds it changes by it
pub data ChangesHolder (s : ℕ) : Event → Type 0 where
  by_take : {t : ℕ} → ChangesHolder s (act take t s)
  by_give : {t : ℕ} → ChangesHolder s (act give t s)

-- its number is a semaphore's
pub holder_series : {s t n : ℕ} {o : Op} → ChangesHolder s (act o t n) → series o ≡ semaphore
holder_series by_take = refl
holder_series by_give = refl

module _ (next : Event → ℕ → Who → Who) where
  later_snoc : (h : Who) (es : List Event) (e : Event) (s : ℕ) → later_who next h (es ++ (e ∷ [])) s ≡ next e s (later_who next h es s)
  later_snoc h [] e s = refl
  later_snoc h (d ∷ es) e s = later_snoc (next d s h) es e s

  -- it is nobody outside the profile, and where it begins
  pub who_snoc : (es : List Event) (e : Event) (s : ℕ) → who_since next (es ++ (e ∷ [])) s ≡ cond (under es) (next e s (who_since next es s)) nobody
  who_snoc es e s = ap (λ (l : List Event). later_who next nobody l s) (since_snoc es e) ∙ of (under es)
    where
      of : (b : Bool) → later_who next nobody (cond b (since es ++ (e ∷ [])) []) s ≡ cond b (next e s (who_since next es s)) nobody
      of true = later_snoc nobody (since es) e s
      of false = refl

  pub who_none : (es : List Event) (s : ℕ) → under es ≡ false → who_since next es s ≡ nobody
  who_none es s q = ap (λ (l : List Event). later_who next nobody l s) (none_since es q)

  -- a record that leaves it
  pub who_left : (es : List Event) (e : Event) (s : ℕ) → next e s (who_since next es s) ≡ who_since next es s → who_since next (es ++ (e ∷ [])) s ≡ who_since next es s
  who_left es e s k = who_snoc es e s ∙ of (under es) refl
    where
      of : (b : Bool) → under es ≡ b → cond b (next e s (who_since next es s)) nobody ≡ who_since next es s
      of true q = k
      of false q = sym (who_none es s q)
