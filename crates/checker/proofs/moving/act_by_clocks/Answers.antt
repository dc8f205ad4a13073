-- Its own part, and order passed on where its kind does.
use mathlib.Core.Path.{sym, ◌∙◌}
use Rattle.theory.specs.fillings.Completion.{arrived, full}
use Rattle.theory.proofs.feeding.Parts.{kept_moved}
use Rattle.checker.proofs.moving.act_by_clocks.Goals as goal

pub returns-then-not-passes_on : goal.returns-then-not-passes_on
returns-then-not-passes_on c =
    let a = c.args in
    let k = a.kind in
    let t = a.task.0 in
    let n = a.number.0 in
    let act = c.requires.1 in
    let keeps = sym c.passes_on.ensures ∙ c.if-not-passes_on.true in
    let fits = c.requires.0.task_fits in
    let own = c.own_both.ensures in
    (kept_moved arrived k t a.on n a.clocks.now act keeps fits own.0, kept_moved full k t a.on n a.fullclocks.now act keeps fits own.1)
