-- All Doubts, then task by task.
use Rattle.std.proofs.Common.{cond}
use Rattle.theory.specs.fillings.Completion.{bit}
use Rattle.theory.specs.tables.Counters.{raise}
use Rattle.theory.proofs.basics.Turns.{Turned}
use Rattle.settle.proofs.tally.tally.Given as goal

abbrev pub invariant-loop-t : goal.invariant-loop-t
invariant-loop-t l = Turned (λ t m. cond (bit l.mask t) (raise t m) m) l.initial.tallies l.t l.tallies
