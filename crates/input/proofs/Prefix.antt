-- From a bound on a count to what the contracts ask of a prefix.
use Rattle.std.specs.Prelude.{ℕ, ◌≤◌, List, length}
use Rattle.text.proofs.Held.{length_taken}
use Rattle.input.specs.Prefix.{IsPrefixLen}

pub prefix_len_of_le : (n : ℕ) (xs : List ℕ) → n ≤ length xs → IsPrefixLen n xs
prefix_len_of_le n xs h = (h, length_taken n xs h)
