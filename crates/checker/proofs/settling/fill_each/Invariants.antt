-- Table after table, each by its own task.
use mathlib.Core.List.{[]}
use lib.ListN.{set, get_or}
use Rattle.theory.specs.tables.Reckonings.{next_clocks}
use Rattle.requests.specs.settling.Fold.{home_only, home_of}
use Rattle.theory.proofs.basics.Turns.{Turned}
use Rattle.checker.proofs.settling.fill_each.Given as goal

abbrev pub invariant-loop-t : goal.invariant-loop-t
invariant-loop-t l = Turned (λ t hs. set hs t (next_clocks (home_only (home_of t)) l.r.kind l.r.task l.r.on l.number.0 (get_or hs t []))) l.initial.homes l.t l.homes
