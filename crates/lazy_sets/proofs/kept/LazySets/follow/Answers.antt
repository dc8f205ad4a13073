-- What the whole run comes to is at each turn what it comes to from there on.
use mathlib.Core.List.{map}
use native.Mathlib.Omega.{arith}
use lib.ListN.{length, length-map}
use Rattle.std.proofs.lemmas.List.{take_all}
use Rattle.std.proofs.lemmas.Result.{err_from_is_err_and}
use Rattle.acceptance.proofs.Admits.{row_from_1, admits, refuses}
use Rattle.requests.specs.following.Following.{record_in}
use Rattle.requests.proofs.following.Listed.{goes_first, goes_refused, goes_on}
use Rattle.requests.proofs.lazy.Code.{count_within_more}
use Rattle.lazy_sets.specs.AsLazy.{as_lazy}
use Rattle.lazy_sets.proofs.kept.LazySets.follow.Goals as goal

pub loop-i-init : goal.loop-i-init
loop-i-init c =
    let xs = c.args.list.now in
    (c.requires, rw (← take_all (length xs) (map record_in xs) (omega (arith, length-map xs record_in))) goes_first)

pub returns-in_err-admit : goal.returns-in_err-admit
returns-in_err-admit c =
    let e = c.admit.ensures in
    let x = refuses c.loop-i.control c.record_at-r.result e.0 e.1 c.in_err-admit.was in
    let p = err_from_is_err_and c.from_residual.result c.from_residual.ensures.1 in
    rw (p.1, p.2, x.same) (goes_refused c.loop-i.invariant.1 c.loop-i-test.true (omega arith) c.record_at-r.ensures x.refusal (row_from_1 _))

pub follow_record-requires : goal.follow_record-requires
follow_record-requires c =
    let e = c.admit.ensures in
    let a = (admits c.loop-i.control c.record_at-r.result e.0 e.1 c.in_ok-admit.was).accepted in
    (a.proper, omega (arith, a.room, c.loop-i.invariant.0.room))

pub loop-i-preserved : goal.loop-i-preserved
loop-i-preserved c =
    let x = c.loop-i in
    let r = c.record_at-r in
    let e = c.admit.ensures in
    -- once no row applies
    let a = admits x.control r.result e.0 e.1 c.in_ok-admit.was in
    let f = c.follow_record.ensures in (
      count_within_more (as_lazy x.self) c.args.q.record r.result x.invariant.0 a.accepted.proper a.noted f,
      goes_on x.invariant.1 c.loop-i-test.true (omega arith) r.ensures a.refusal a.noted f,
    )
