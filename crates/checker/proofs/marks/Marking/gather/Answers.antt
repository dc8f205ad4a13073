-- What a mark can acquire is gathered in a row by itself, named task by named task, which is then joined to the hub.
use mathlib.Core.Path.{◌≡◌, ◌∙◌, sym}
use mathlib.Core.List.{List}
use Prim.Native.Nat.{ℕ}
use native.Mathlib.Omega.{arith}
use Rattle.theory.specs.fillings.Completion.{bit}
use Rattle.theory.specs.tables.Rows.{hub, join_row, row_or_hub, gather}
use Rattle.theory.proofs.basics.Turns.{all_turns}
use Rattle.theory.proofs.tables.Rows.{Same, join_nothing, join_acquired}
use Rattle.theory.proofs.tables.NamedTurns.{NamedTurned, no_named_turn, one_named_turn, all_named_turns, idle_gather}
use Rattle.theory.specs.order.Limits.{tasks}
use Rattle.checker.proofs.marks.Marking.gather.Goals as goal

pub loop-left-init : goal.loop-left-init
loop-left-init g c = no_named_turn c.lower_half-left.ensures (join_nothing g.met.Self.Reckoning.gathers g.row.WIDTH hub c.args.cells.now)

pub loop-left-preserved : goal.loop-left-preserved
loop-left-preserved g c =
    let j = g.met.Self.Reckoning.gathers in
    let mask = c.args.mask in
    let low = c.lowest.ensures in
    one_named_turn (idle_gather j.alone g.row.WIDTH mask _) c.loop-left.invariant (low.0 c.loop-left-test.true, low.1) c.without_lowest-left.ensures.0
    (λ named. rw (c.acquired_with-known.ensures, c.task_row.ensures, named) (sym (join_acquired j g.row.WIDTH hub _ _ _)))

-- all that the mask names is gathered, and the row that has gathered it joined to the hub
gathered : {j : ℕ → ℕ → ℕ} → Same j → (w mask : ℕ) {b x y : List ℕ} {left : ℕ} →
    NamedTurned mask (λ u b. join_row j w hub (row_or_hub (bit mask u) u) b) b left y → left ≡ 0 → x ≡ y → x ≡ gather j w mask b
unfolding gather
gathered s w mask t e h = h ∙ all_turns tasks (all_named_turns (idle_gather s w mask _) t e) (omega arith) (omega arith)

pub returns : goal.returns
returns g c = gathered g.met.Self.Reckoning.gathers.alone g.row.WIDTH c.args.mask c.loop-left.invariant c.loop-left-test.false c.join_with.ensures
