-- A table after an act, from the table after the act's own part, in clocks and sets alike. Assumes nothing.
use mathlib.Core.Path.{◌≡◌, ap, ◌∙◌}
use mathlib.Core.Bool.{Bool, false}
use mathlib.Core.List.{List}
use Prim.Native.Nat.{ℕ, ◌<◌}
use Rattle.theory.specs.order.Limits.{tasks}
use Rattle.theory.specs.tables.Rows.{onward}
use Rattle.theory.proofs.tables.Rows.{Same}
use Rattle.theory.proofs.tables.HandOver.{passes_on}
use Rattle.theory.proofs.tables.Ranges.{kept_onward}

module _ {j : ℕ → ℕ → ℕ} (same : Same j) (w : ℕ) (asked : Bool) (k t n : ℕ) (own : List ℕ) {x : List ℕ} (e : x ≡ own) where
  -- after one that passes nothing on that is all
  pub onward_kept : passes_on k ≡ false → t < tasks → x ≡ onward j w asked k t n own
  onward_kept h l = e ∙ kept_onward same w asked k t n own h l

  -- after another act its order comes to it
  pub passed_on : {y : List ℕ} → y ≡ onward j w asked k t n x → y ≡ onward j w asked k t n own
  passed_on q = q ∙ ap (onward j w asked k t n) e
