-- Kept anew under each kind in turn.
use mathlib.Core.Bool.{cond}
use Rattle.theory.specs.order.Recording.{numbered_kind}
use Rattle.theory.specs.history.History.{asker, kind_clashes, slot}
use Rattle.theory.specs.tables.Reckonings.{add_slot, clear_slot}
use Rattle.theory.proofs.basics.Turns.{Turned}
use Rattle.checker.proofs.sets.keep_in_slots.Given as goal

abbrev pub invariant-loop-a : goal.invariant-loop-a
invariant-loop-a l =
    Turned (λ a b. cond (kind_clashes (numbered_kind l.access.kind) (asker a)) (add_slot l.access.task.0 (slot a l.access.variable.0 l.access.task.0) (clear_slot (slot a l.access.variable.0 l.access.task.0) b)) b) l.initial.cells l.a l.cells
