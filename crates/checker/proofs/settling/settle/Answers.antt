-- The records before the last are followed, and the last is answered.
use mathlib.Core.Path.{refl, ◌∙◌}
use Prim.Native.Nat.{◌-◌}
use native.Mathlib.Omega.{arith}
use lib.ListN.{length}
use Rattle.requests.specs.following.Following.{record_in}
use Rattle.requests.specs.settling.Fold.{home_follower, fresh_side}
use Rattle.requests.proofs.following.Listed.{answered_by_lem, ending_refused}
use Rattle.std.proofs.lemmas.List.{take-map, length-take-le}
use Rattle.std.proofs.lemmas.Result.{err_from_is_err_and}
use Rattle.acceptance.proofs.Admits.{row_from_1}
use Rattle.checker.proofs.Unsettled.{unsettled_row}
use Rattle.checker.proofs.settling.settle.Goals as goal

pub returns-in_err-follow_home : goal.returns-in_err-follow_home
unfolding fresh_side
returns-in_err-follow_home c =
    let a = c.args in
    let xs = a.list.now in
    let n = length xs - 1 in
    let q = rw (length-take-le n xs (omega arith)) at c.record_at-q.ensures in
    let before = rw (← take-map record_in n xs) at c.in_err-follow_home.ensures in
    let p = err_from_is_err_and c.from_residual.result c.from_residual.ensures.1 in
    rw (p.1, p.2)
    (answered_by_lem (home_follower a.home) (λ q. refl) xs n (omega (arith, c.in-len1-up.len_at_least)) q refl c.fresh_control-control.ensures before
    (unsettled_row _ ∙ ending_refused (home_follower a.home) _ _ (row_from_1 _)) refl)

pub returns : goal.returns
unfolding fresh_side
returns c =
    let a = c.args in
    let xs = a.list.now in
    let n = length xs - 1 in
    let q = rw (length-take-le n xs (omega arith)) at c.record_at-q.ensures in
    let before = rw (← take-map record_in n xs) at c.in_ok-follow_home.ensures in
    answered_by_lem (home_follower a.home) (λ q. refl) xs n (omega (arith, c.in-len1-up.len_at_least)) q refl c.fresh_control-control.ensures before
    c.settled_end.ensures refl
