-- A store for each kind in turn; those that are made once more change nothing.
use mathlib.Core.Path.{refl, ◌∙◌}
use native.Mathlib.Omega.{arith}
use lib.ListN.{length}
use Rattle.theory.specs.history.History.{askers}
use Rattle.theory.proofs.basics.Turns.{no_turn, one_turn, all_turns}
use Rattle.theory.proofs.history.Accesses.{access_asks, kept_again}
use Rattle.checker.proofs.history.keep.Goals as goal

pub loop-a-init : goal.loop-a-init
loop-a-init c = no_turn

pub loop-a-preserved : goal.loop-a-preserved
loop-a-preserved c =
    one_turn c.loop-a.invariant (rw (← c.kept_under.ensures.0, ← c.slot.ensures.0) refl)

pub returns : goal.returns
returns c =
    let a = c.args in
    let t = all_turns (length askers) c.loop-a.invariant (omega arith) (omega arith) in
    let e = a.access.in_range.is_access_lem in
    (rw (access_asks a.access.kind e c.ask_at-asks.ensures).0 at t) ∙ kept_again a.access.kind a.access.variable.0 a.access.task.0 a.number.0 a.last.now e
