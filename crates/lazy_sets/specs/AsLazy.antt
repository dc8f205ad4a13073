-- How contracts name what the lazy reckoning keeps: the code's struct as the definitions have it.
use Rattle.requests.specs.lazy.Fold.{Lazy, lazy_of}
use Rattle.lazy_sets.specs.declared.kept.LazySets.{LazySets}

abbrev pub as_lazy : LazySets → Lazy
as_lazy s = lazy_of s.nodes s.counts s.walk
