-- The mask of an access, gathered from the lowest task up.
use Rattle.theory.proofs.tables.Bits.{Gathered}
use Rattle.theory.proofs.tables.Reckoned.{apart_by}
use Rattle.checker.proofs.sets.BySetsReckoningSLOT_WORDSSET_CELLS.access_mask.Given as goal

abbrev pub invariant-loop-u : goal.invariant-loop-u
invariant-loop-u l = Gathered (apart_by l.last l.access.kind l.access.variable.0 l.known) l.u l.x
