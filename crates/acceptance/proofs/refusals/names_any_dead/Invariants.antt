-- Each turn of the loop is one of `any_below`.
use mathlib.Core.Bool.{false, not, ◌&&◌, ◌||◌}
use Rattle.theory.specs.fillings.Completion.{names}
use Rattle.theory.specs.acceptance.Control.{live_in}
use Rattle.theory.proofs.basics.Turns.{Turned}
use Rattle.acceptance.proofs.refusals.names_any_dead.Given as goal

abbrev pub invariant-loop-t : goal.invariant-loop-t
invariant-loop-t l = Turned (λ t b. b || (names l.mask t && not (live_in l.control t))) false l.t l.found
