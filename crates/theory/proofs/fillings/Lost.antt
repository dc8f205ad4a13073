-- What a completion may put: tried out over all kinds. Assumes nothing.
use mathlib.Core.Path.{◌≡◌, refl, sym, subst}
use mathlib.Core.Bool.{Bool, true, ◌||◌}
use mathlib.Core.Logic.{◌⊎◌}
use lib.Dec.{T}
use Rattle.theory.specs.order.Recording.{Op, take, give, look, set, miss, losable, Kind, of_op, of_mark, ◌is◌}
use Rattle.theory.specs.fillings.Completion.{CanBeLost}
use Rattle.theory.proofs.basics.Reflects.{Reflects, either, passed, passes}
use Rattle.theory.proofs.order.Ops.{same_op, each_op}
use Rattle.theory.proofs.order.Numbered.{same, same_true}

abbrev one_of_five : Op → Bool
one_of_five o = o is take || (o is give || (o is look || (o is set || o is miss)))

tried : (o : Op) → losable o ≡ one_of_five o
tried o = same_true (losable o) (one_of_five o) (each_op as_listed refl refl o)
  where
    as_listed : Kind → Bool
    as_listed (of_op o) = same (losable o) (one_of_five o)
    as_listed of_mark = true

pub can_be_lost : CanBeLost
can_be_lost o = (λ l. passed test (subst T (tried o) l), λ x. subst T (sym (tried o)) (passes test x))
  where
    test : Reflects ((o ≡ take) ⊎ ((o ≡ give) ⊎ ((o ≡ look) ⊎ ((o ≡ set) ⊎ (o ≡ miss))))) (one_of_five o)
    test = either (same_op o take) (either (same_op o give) (either (same_op o look) (either (same_op o set) (same_op o miss))))
