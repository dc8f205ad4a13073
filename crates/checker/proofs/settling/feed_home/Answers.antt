-- A refused record leaves all as it was; an accepted one is answered for and taken in.
use mathlib.Core.Path.{◌≡◌, refl, sym, ◌∙◌, ap}
use Rattle.std.specs.Prelude.{Ok}
use mathlib.Core.List.{[]}
use Rattle.theory.specs.declared.numbers.RecordNumber.{RecordNumber}
use Rattle.requests.specs.following.Following.{run_of, ending}
use Rattle.requests.specs.settling.Fold.{side_of, side_after, home_follower}
use Rattle.requests.proofs.following.Listed.{ending_own, followed_refused, followed_accepted}
use Rattle.std.proofs.lemmas.Result.{err_from_is_err_and}
use Rattle.acceptance.proofs.Admits.{row_from_1, admits, refuses}
use Rattle.checker.proofs.Unsettled.{unsettled_row}
use Rattle.checker.proofs.settling.feed_home.Goals as goal

pub returns-in_err-admitted : goal.returns-in_err-admitted
returns-in_err-admitted c =
    let a = c.args in
    let side = side_of a.last.now a.cells.now in
    let e = c.admit.ensures in
    let x = refuses a.control.now a.r e.0 e.1 c.in_err-admitted.was in
    let n = row_from_1 _ in
    let p = err_from_is_err_and c.from_residual.result c.from_residual.ensures.1 in
    rw (p.1, p.2) (
      unsettled_row _ ∙ ending_own (home_follower a.home) a.r (run_of 0 a.control.now side) refl x.refusal n,
      rw x.same (sym (followed_refused (side_after a.home) a.control.now side a.r [] x.refusal n)),
    )

-- once no row applies
pub settled_at-settled-requires : goal.settled_at-settled-requires
settled_at-settled-requires c =
    let a = c.args in
    let e = c.admit.ensures in
    (admits a.control.now a.r e.0 e.1 c.in_ok-admitted.was).accepted.proper

pub take_in-requires : goal.take_in-requires
take_in-requires c =
    let a = c.args in
    let e = c.admit.ensures in
    (admits a.control.now a.r e.0 e.1 c.in_ok-admitted.was).accepted.proper

pub returns : goal.returns
returns c =
    let a = c.args in
    let side = side_of a.last.now a.cells.now in
    let e = c.admit.ensures in
    let x = admits a.control.now a.r e.0 e.1 c.in_ok-admitted.was in
    let answer : Ok c.settled_at-settled.result ≡ ending (home_follower a.home) a.r (run_of 0 a.control.now side) = rw x.refusal c.settled_at-settled.ensures in
    let taken = c.take_in.ensures a.control.now (ap (λ (n : RecordNumber). n.0) x.number) in
    (answer, rw (x.noted, taken) (sym (followed_accepted (side_after a.home) a.control.now side a.r [] x.refusal)))
