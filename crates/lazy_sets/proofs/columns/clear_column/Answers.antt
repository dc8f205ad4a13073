-- The column's bit is taken from each node in turn.
use mathlib.Core.Path.{refl}
use native.Mathlib.Omega.{arith}
use Rattle.theory.specs.tables.Rows.{hub}
use Rattle.requests.specs.lazy.Fold.{clear_column}
use Rattle.theory.proofs.basics.Turns.{no_turn, one_turn, all_turns}
use Rattle.lazy_sets.proofs.columns.clear_column.Goals as goal

pub loop-word-init : goal.loop-word-init
loop-word-init c = no_turn

pub loop-word-preserved : goal.loop-word-preserved
loop-word-preserved c = one_turn c.loop-word.invariant refl

pub returns : goal.returns
unfolding clear_column
returns c = rw (← c.all_but-others.ensures.0 c.requires) (all_turns hub c.loop-word.invariant (omega arith) (omega arith))
