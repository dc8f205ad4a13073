-- It is counted. Where something is followed, order goes over it, and what has come to the acting task is counted, too.
use Prim.Native.Nat.{◌+◌}
use lib.ListN.{get_or}
use borrow.Author.Tests.{ne_eqb}
use Rattle.requests.specs.lazy.Fold.{walked_over}
use Rattle.requests.proofs.lazy.Code.{no_arrival}
use Rattle.lazy_sets.proofs.kept.LazySets.walk_over.Goals as goal

pub returns-then-self-eq0 : goal.returns-then-self-eq0
unfolding walked_over
returns-then-self-eq0 c =
    let s = c.args.self.now in
    rw (c.if-self-eq0.true, no_arrival (get_or s.nodes c.args.q.record.task 0) (s.walk.walked + 1) s.counts)

pub returns : goal.returns
unfolding walked_over
returns c =
    rw (ne_eqb c.args.self.now.walk.pairs 0 c.if-self-eq0.false, c.arrive_now.ensures, c.flow.ensures, c.task_row-acting.ensures)
