-- What a piece leaves in the numbers that a host keeps.
use mathlib.Core.Path.{◌≡◌, ap, ◌∙◌}
use Prim.Native.Nat.{ℕ, ◌-◌, ◌^◌}
use native.Mathlib.Nat.{zero-add}
use mathlib.Core.Bool.{Bool, true, false, cond}
use mathlib.Core.List.{List}
use lib.ListN.{length, set, get_or}
use lib.Seq.{sets, set-get_or}
use Rattle.text.specs.declared.progress.Progress.{Progress}
use Rattle.text.specs.Stream.{Reader, Pending, piece_said, piece_kept, progress_to}
use Rattle.text.specs.Pieces.{piece_refused}
use Rattle.pieces.specs.Begun.{begun, progress_numbers}

-- the numbers with the progress written into them
abbrev stored : List ℕ → Progress → List ℕ
stored numbers p = set (set numbers 0 p.lines) 1 p.held

-- by the progress that was answered: where what is said ends in its memory, and the numbers
module _ {S : Type 0} (x : Reader S) where
  pub numbers_after : (taken : Bool) (numbers : List ℕ) (k : Pending S) (piece : List ℕ) (p : Progress) → p ≡ cond taken (progress_to x k 0 piece) (piece_refused (begun numbers))
      → (p.at ≡ cond taken (length (piece_said x k piece)) (2 ^ 64 - 1)) × (stored numbers p ≡ cond taken (sets numbers 0 (progress_numbers (piece_kept x k piece))) numbers)
  numbers_after true numbers k piece p e = (ap (λ (x : Progress). x.at) e ∙ zero-add _, ap (stored numbers) e)
  numbers_after false numbers k piece p e =
      (ap (λ (x : Progress). x.at) e, ap (stored numbers) e ∙ (ap (λ (x : List ℕ). set x 1 (get_or numbers 1 0)) (set-get_or numbers 0 0) ∙ set-get_or numbers 1 0))
