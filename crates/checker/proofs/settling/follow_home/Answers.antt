-- What the whole run comes to is at each turn what it comes to from there on.
use mathlib.Core.Path.{ap, subst}
use mathlib.Core.List.{List, map}
use native.Mathlib.Omega.{arith}
use lib.ListN.{length, length-map}
use Rattle.theory.specs.declared.numbers.RecordNumber.{RecordNumber}
use Rattle.theory.specs.declared.record.Record.{Record}
use Rattle.requests.specs.following.Following.{record_in, followed}
use Rattle.requests.specs.settling.Fold.{side_of, side_after}
use Rattle.acceptance.proofs.Admits.{row_from_1, admits, refuses}
use Rattle.requests.proofs.following.Listed.{Goes, goes_first, goes_out, goes_refused, goes_on}
use Rattle.std.proofs.lemmas.List.{take_all}
use Rattle.std.proofs.lemmas.Result.{err_from_is_err_and}
use Rattle.checker.proofs.settling.follow_home.Goals as goal

pub loop-i-init : goal.loop-i-init
loop-i-init c =
    let a = c.args in
    let next = side_after a.home in
    let xs = a.list.now in
    let side = side_of a.last.now a.cells.now in
    let all = take_all (length xs) (map record_in xs) (omega (arith, length-map xs record_in)) in
    subst (λ (rs : List Record). Goes next xs (length xs) (followed next a.control.now side rs) 0 a.control.now side) all goes_first

pub returns-in_err-admitted : goal.returns-in_err-admitted
returns-in_err-admitted c =
    let e = c.admit.ensures in
    let x = refuses c.loop-i.control c.record_at-r.result e.0 e.1 c.in_err-admitted.was in
    let p = err_from_is_err_and c.from_residual.result c.from_residual.ensures.1 in
    rw (p.1, p.2, x.same) (goes_refused c.loop-i.invariant (omega arith) (omega arith) c.record_at-r.ensures x.refusal (row_from_1 _))

-- once no row applies
pub take_in-requires : goal.take_in-requires
take_in-requires c =
    let e = c.admit.ensures in
    (admits c.loop-i.control c.record_at-r.result e.0 e.1 c.in_ok-admitted.was).accepted.proper

pub loop-i-preserved : goal.loop-i-preserved
loop-i-preserved c =
    let e = c.admit.ensures in
    let x = admits c.loop-i.control c.record_at-r.result e.0 e.1 c.in_ok-admitted.was in
    let side = c.take_in.ensures c.loop-i.control (ap (λ (n : RecordNumber). n.0) x.number) in
    goes_on c.loop-i.invariant (omega arith) (omega arith) c.record_at-r.ensures x.refusal x.noted side

pub returns : goal.returns
returns c = goes_out c.loop-i.invariant (omega arith)
