-- The column's bit is taken from each node in turn.
use lib.Bits.{bit_and}
use lib.ListN.{set}
use Rattle.requests.specs.lazy.Fold.{word_at}
use Rattle.theory.proofs.basics.Turns.{Turned}
use Rattle.lazy_sets.proofs.columns.clear_column.Given as goal

abbrev pub invariant-loop-word : goal.invariant-loop-word
invariant-loop-word l = Turned (λ r b. set b r (bit_and (word_at b r) l.others)) l.initial.nodes l.word-index l.nodes
