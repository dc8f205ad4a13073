-- What the whole run comes to is at each turn what it comes to from there on.
use mathlib.Core.List.{map}
use lib.ListN.{length}
use Rattle.requests.specs.following.Following.{followed, record_in}
use Rattle.requests.specs.lazy.Fold.{lazy_after}
use Rattle.requests.proofs.following.Listed.{Goes}
use Rattle.requests.proofs.lazy.Code.{WithinCount}
use Rattle.lazy_sets.specs.AsLazy.{as_lazy}
use Rattle.lazy_sets.proofs.kept.LazySets.follow.Given as goal

abbrev pub invariant-loop-i : goal.invariant-loop-i
invariant-loop-i l =
    WithinCount l.control l.self.walk.walked
    × Goes (lazy_after l.q.record) l.list (length l.list) (followed (lazy_after l.q.record) l.initial.control (as_lazy l.initial.self) (map record_in l.list)) l.i l.control (as_lazy l.self)
