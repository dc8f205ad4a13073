-- What the whole run comes to is at each turn what it comes to from there on.
use mathlib.Core.List.{map}
use lib.ListN.{length}
use Rattle.requests.specs.following.Following.{followed, record_in}
use Rattle.requests.specs.settling.Fold.{side_of, side_after}
use Rattle.requests.proofs.following.Listed.{Goes}
use Rattle.checker.proofs.settling.follow_home.Given as goal

abbrev pub invariant-loop-i : goal.invariant-loop-i
invariant-loop-i l =
    Goes (side_after l.home) l.list (length l.list) (followed (side_after l.home) l.initial.control (side_of l.initial.last l.initial.cells) (map record_in l.list)) l.i l.control (side_of l.last l.cells)
