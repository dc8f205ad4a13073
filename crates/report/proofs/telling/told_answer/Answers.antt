-- As by document 01 where no entry was taken in and for what is no Race; a Race by its excuse.
use Rattle.report.proofs.Judging.{none_taken, plain_line, no_race_line, no_race_case}
use Rattle.report.proofs.telling.told_answer.Goals as goal

pub returns-then-control-eq0 : goal.returns-then-control-eq0
returns-then-control-eq0 c =
    let a = c.args in
    λ line. rw (none_taken a.control.now a.last.now a.fullclocks.now a.r _ c.if-control-eq0.true, plain_line line a.r a.a) (c.told_plain.ensures line a.r)

pub returns-in_default : goal.returns-in_default
returns-in_default c =
    let a = c.args in
    λ line. rw (no_race_line line a.r _ a.a (no_race_case a.a c.in_default.not-Race)) (c.told_plain-in_default.ensures line a.r)
