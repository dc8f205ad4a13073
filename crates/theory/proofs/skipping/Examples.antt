-- The short lists of F-13 and F-14 have as many skipped takes as stand with them: the table is computed. Assumes nothing.
use mathlib.Core.Path.{refl}
use Rattle.theory.specs.basics.Turns.{turns}
use Rattle.theory.specs.acceptance.Table.{standing_refusal}
use Rattle.theory.specs.skipping.Examples.{AllSkip, skipped_lists}

pub all_skip : AllSkip skipped_lists
unfolding turns standing_refusal
all_skip = refl
