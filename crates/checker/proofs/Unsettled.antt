-- What a result says of a refusal: none where it is fine, and the answer of a refused list is its row. Assumes nothing.
use mathlib.Core.Path.{◌≡◌, refl, sym}
use mathlib.Core.Bool.{true, true≢false}
use Rattle.std.specs.Prelude.{Result, Ok, Err, is_ok}
use Rattle.theory.specs.declared.refusal.Refusal.{Refusal}
use Rattle.theory.specs.acceptance.Refusals.{row_number, refusal_in}
use Rattle.requests.specs.settling.Fold.{unsettled}
use Rattle.requests.proofs.following.Listed.{refused_without}

pub fine_unrefused : {A : Type 0} (x : Result A Refusal) → is_ok x ≡ true → refusal_in x ≡ 0
fine_unrefused (Ok a) e = refl
fine_unrefused (Err row) e = absurd (true≢false (sym e))

pub unsettled_row : (row : Refusal) → Err row ≡ unsettled (row_number row)
unsettled_row row = sym (refused_without unsettled (λ n. refl) row)
