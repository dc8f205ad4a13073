-- Column by column; a word that is as it was has no new bit.
use mathlib.Core.Path.{◌≡◌}
use mathlib.Core.Bool.{cond, not, ◌&&◌}
use Prim.Native.Nat.{◌-◌}
use lib.ListN.{get_or, set}
use Rattle.theory.specs.fillings.Completion.{bit}
use Rattle.theory.proofs.basics.Turns.{Turned}
use Rattle.lazy_sets.proofs.kept.LazySets.arrive_now.Given as goal

abbrev pub invariant-loop-c : goal.invariant-loop-c
invariant-loop-c l =
    (l.self ≡ record l.initial.self { counts = l.self.counts })
    × Turned (λ c counts. cond (bit l.after c && not (bit l.before c)) (set counts c (l.initial.self.walk.walked - get_or counts c 0)) counts) l.initial.self.counts l.c l.self.counts
