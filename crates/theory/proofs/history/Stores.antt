-- One number is stored at several places, at one of them more than once: it does not matter how often. Assumes nothing.
use mathlib.Core.Path.{◌≡◌, refl, sym, ◌∙◌, ap, subst}
use mathlib.Core.Bool.{Bool, true, false, cond}
use mathlib.Core.List.{List}
use Prim.Native.Nat.{ℕ, zero, suc, ◌<◌}
use native.Mathlib.Omega.{arith}
use lib.ListN.{set}
use lib.Seq.{set-set, set_comm}
use Rattle.theory.specs.basics.Turns.{turns}
use Rattle.theory.proofs.basics.Reflects.{Reflects, right, wrong, equal}

-- x is stored at place s a for each a that c holds of; w is one of them
module _ (c : ℕ → Bool) (s : ℕ → ℕ) (w x : ℕ) where
  abbrev store_once : ℕ → List ℕ → List ℕ
  store_once a l = cond (c a) (set l (s a) x) l

  -- the same with a store for every a: where c does not hold, at w once more
  abbrev store_again : ℕ → List ℕ → List ℕ
  store_again a l = set l (s (cond (c a) a w)) x

  -- in either order
  any_order : (l : List ℕ) (i j : ℕ) → set (set l i x) j x ≡ set (set l j x) i x
  any_order l i j = decided (equal i j)
    where
      decided : {b : Bool} → Reflects (i ≡ j) b → set (set l i x) j x ≡ set (set l j x) i x
      decided (right q) = rw q refl
      decided (wrong n) = set_comm l i j x x n

  -- with a store at w after them, both ways are the same
  same_with_w : (n : ℕ) (l : List ℕ) → set (turns n store_again l) (s w) x ≡ set (turns n store_once l) (s w) x
  unfolding turns
  same_with_w zero l = refl
  same_with_w (suc n) l = decided (c n) (turns n store_again l) (turns n store_once l) (same_with_w n l)
    where
      decided : (b : Bool) (p q : List ℕ) → set p (s w) x ≡ set q (s w) x → set (set p (s (cond b n w)) x) (s w) x ≡ set (cond b (set q (s n) x) q) (s w) x
      decided true p q e = any_order p (s n) (s w) ∙ ap (λ (l : List ℕ). set l (s n) x) e ∙ sym (any_order q (s n) (s w))
      decided false p q e = set-set p (s w) x x ∙ e

  -- and a store at w after them changes nothing, where one of them is that
  module _ (f : ℕ → List ℕ → List ℕ) (commutes : (a : ℕ) (l : List ℕ) → set (f a l) (s w) x ≡ f a (set l (s w) x)) (at-w : (l : List ℕ) → f w l ≡ set l (s w) x) where
    is_stored : (n : ℕ) (l : List ℕ) → w < n → set (turns n f l) (s w) x ≡ turns n f l
    unfolding turns
    is_stored zero l h = absurd (omega arith)
    is_stored (suc n) l h = decided (equal w n) (is_stored n l)
      where
        decided : {b : Bool} → Reflects (w ≡ n) b → (w < n → set (turns n f l) (s w) x ≡ turns n f l) → set (f n (turns n f l)) (s w) x ≡ f n (turns n f l)
        decided (right q) g =
            let m = turns n f l in
            let e : f n m ≡ set m (s w) x = subst (λ (a : ℕ). f a m ≡ set m (s w) x) q (at-w m) in
            ap (λ (l : List ℕ). set l (s w) x) e ∙ set-set m (s w) x x ∙ sym e
        decided (wrong d) g = commutes n (turns n f l) ∙ ap (f n) (g (omega arith))

  pub stored_again : c w ≡ true → (n : ℕ) (l : List ℕ) → w < n → turns n store_again l ≡ turns n store_once l
  stored_again e n l h =
      sym (is_stored store_again (λ a l. any_order l (s (cond (c a) a w)) (s w)) (λ l. rw e refl) n l h)
      ∙ same_with_w n l
      ∙ is_stored store_once once_commutes (λ l. rw e refl) n l h
    where
      once_commutes : (a : ℕ) (l : List ℕ) → set (store_once a l) (s w) x ≡ store_once a (set l (s w) x)
      once_commutes a l = decided (c a)
        where
          decided : (b : Bool) → set (cond b (set l (s a) x) l) (s w) x ≡ cond b (set (set l (s w) x) (s a) x) (set l (s w) x)
          decided true = any_order l (s a) (s w)
          decided false = refl
