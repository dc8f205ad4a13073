-- The short lists of F-12 and F-14 get the refusals that stand with them: the table is computed. Assumes nothing.
use mathlib.Core.Path.{refl}
use Rattle.theory.specs.basics.Turns.{turns}
use Rattle.theory.specs.acceptance.Table.{standing_refusal}
use Rattle.theory.specs.acceptance.Examples.{AllGet, refusal_lists}

pub all_get : AllGet refusal_lists
unfolding turns standing_refusal
all_get = refl
