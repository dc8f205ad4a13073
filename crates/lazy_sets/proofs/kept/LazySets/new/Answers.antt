-- Nothing is kept yet.
use Rattle.requests.specs.lazy.Fold.{fresh_lazy}
use Rattle.lazy_sets.proofs.kept.LazySets.new.Goals as goal

pub returns : goal.returns
unfolding fresh_lazy
returns c = let w = c.default.ensures in rw (w.0, w.1.0, w.1.1.0, w.1.1.1)
