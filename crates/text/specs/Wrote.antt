-- What it means that bytes were written into lent memory.
use Rattle.std.specs.Prelude.{◌≡◌, List, ℕ, ◌+◌, length}
use Rattle.std.proofs.lemmas.List.Edits.{sets}

-- bs was written over `before` from the place `at` on: `after` is what the memory holds then, all else in it as it was, and `to` is the next place
pub record Wrote (before : List ℕ) (at : ℕ) (bs after : List ℕ) (to : ℕ) : Type 0 where
  pub place : to ≡ at + length bs
  pub memory : after ≡ sets before at bs
