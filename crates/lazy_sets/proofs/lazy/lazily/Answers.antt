-- The records before the last are followed, and the last is answered.
use mathlib.Core.Path.{◌≡◌, refl, sym, ap}
use mathlib.Core.List.{List, map}
use Prim.Native.Nat.{ℕ, ◌-◌}
use native.Mathlib.Omega.{arith}
use lib.ListN.{length, take}
use Rattle.std.specs.Prelude.{Result, Err}
use Rattle.std.proofs.Common.{rules}
use Rattle.std.proofs.lemmas.List.{take-map, length-take-le}
use Rattle.std.proofs.lemmas.Result.{err_from_is_err_and}
use Rattle.theory.specs.declared.record.Record.{Record}
use Rattle.theory.specs.declared.refusal.Refusal.{Refusal}
use Rattle.theory.specs.acceptance.Refusals.{row_number}
use Rattle.requests.specs.declared.walk.Pairs.{Pairs}
use Rattle.requests.specs.following.Following.{record_in, Run, run_of, followed, ending}
use Rattle.requests.specs.lazy.Fold.{Lazy, lazy_after, lazy_follower, fresh_lazy, lazily}
use Rattle.requests.proofs.following.Listed.{answered_by_lem, refused_without}
use Rattle.requests.proofs.lazy.Code.{question_clipped}
use Rattle.lazy_sets.specs.AsLazy.{as_lazy}
use Rattle.lazy_sets.proofs.lazy.lazily.Goals as goal
use Rattle.lazy_sets.proofs.lazy.lazily.Goals.{After-follow}

pub follow-requires : goal.follow-requires
unfolding fresh_lazy
follow-requires c = record { size = search rules; room = rw (ap (λ s. s.walk.walked) c.new-reckoning.ensures) (omega arith) }

-- whatever following came to
answered : (c : After-follow) {run : Run Lazy} {a : Result Pairs Refusal} → let xs = c.args.list.now in
    run ≡ followed (lazy_after c.question.result.record) c.fresh_control-control.result (as_lazy c.new-reckoning.result) (map record_in (take (length xs - 1) xs)) →
    a ≡ ending lazy_follower c.record_at-q.result run → a ≡ lazily (map record_in xs)
answered c e r =
    let xs = c.args.list.now in
    let n = length xs - 1 in
    answered_by_lem lazy_follower (λ q. ap lazy_after (question_clipped q)) xs n (omega (arith, c.in-len1-up.len_at_least)) (rw (length-take-le n xs (omega arith)) at c.record_at-q.ensures)
    (ap lazy_after c.question.ensures) c.fresh_control-control.ensures (rw (← take-map record_in n xs) at e) r c.new-reckoning.ensures

-- a record before the last is refused
refused_before : (q : Record) (control : List ℕ) (s : Lazy) (row : Refusal) → Err row ≡ ending lazy_follower q (run_of (row_number row) control s)
refused_before q control s row = sym (refused_without (λ n. ending lazy_follower q (run_of n control s)) (λ n. refl) row)

pub returns-in_err-follow : goal.returns-in_err-follow
returns-in_err-follow c =
    let p = err_from_is_err_and c.from_residual.result c.from_residual.ensures.1 in
    rw (p.1, p.2) (answered (goal.at.returns-in_err-follow c).After-follow c.in_err-follow.ensures (refused_before _ _ _ _))

pub returns : goal.returns
returns c = answered (goal.at.returns c).After-follow c.in_ok-follow.ensures c.ending.ensures
