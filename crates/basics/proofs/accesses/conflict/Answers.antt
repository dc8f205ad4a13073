-- The rule of conflict, tried out for each two kinds of access.
-- what the code computes
use mathlib.Core.Path.{◌≡◌, refl}
use mathlib.Core.Bool.{Bool, false, not, ◌||◌}
use Prim.Native.Nat.{ℕ, ◌<◌}
use lib.Dec.{eqb}
use lib.ListN.{length}
use borrow.Author.Tests.{not-false}
use Rattle.theory.specs.basics.Turns.{turns, any_below}
use Rattle.theory.specs.order.Path.{rule, clashes}
use Rattle.theory.specs.history.History.{askers, asker}
use Rattle.theory.proofs.acceptance.Rows.{none_below}
use Rattle.theory.proofs.order.Numbered.{same, same_true}
use Rattle.theory.proofs.history.Accesses.{write_asks}
use Rattle.basics.proofs.accesses.conflict.Goals as goal

abbrev tested : ℕ → ℕ → Bool
tested one other = not (eqb one other) || eqb other write_asks

-- is not the rule
abbrev wrong : ℕ → ℕ → Bool
wrong one other = not (same (tested one other) (clashes (asker one) (asker other)))

tried : any_below (length askers) (λ one. any_below (length askers) (wrong one)) ≡ false
unfolding turns rule
tried = refl

each : (one other : ℕ) → one < length askers → other < length askers → tested one other ≡ clashes (asker one) (asker other)
each one other h l =
    same_true _ _ (not-false _ (none_below (length askers) (wrong one) (none_below (length askers) (λ one. any_below (length askers) (wrong one)) tried one h) other l))

pub returns : goal.returns
returns c = let a = c.args in (refl, each a.one a.other)
