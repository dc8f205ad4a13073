-- Below ten a number is spaces and a digit, and from ten on its tenth in what is left of the column and its last digit.
use mathlib.Core.List.{[], ◌∷◌}
use native.Mathlib.Omega.{arith}
use Rattle.std.proofs.Common.{rules}
use Rattle.text.proofs.Wrote.{◌then◌}
use Rattle.totals.proofs.Aligned.{length_padded, aligned_small, aligned_more, length_aligned_small, length_aligned_more}
use Rattle.totals.proofs.table.+put_aligned.Goals as goal

pub put_padded-requires : goal.put_padded-requires
put_padded-requires t c =
    omega (
      arith,
      length_aligned_small c.args.width _ c.args.n c.beside_digit-left.ensures c.if-n-lt10.true,
      length_padded c.beside_digit-left.result (c.last_digit.result ∷ []),
    )

pub returns-then-n-lt10 : goal.returns-then-n-lt10
returns-then-n-lt10 t c =
    rw (aligned_small c.args.width _ c.args.n c.beside_digit-left.ensures c.if-n-lt10.true, ← c.last_digit.ensures) c.put_padded.ensures

pub put_aligned-to-requires : goal.put_aligned-to-requires
put_aligned-to-requires t c =
    (search rules, omega (arith, length_aligned_more c.args.width _ c.args.n c.beside_digit-left.ensures c.if-n-lt10.false))

pub put_padded-requires-2 : goal.put_padded-requires-2
put_padded-requires-2 t c =
    omega (arith, length_aligned_more c.args.width _ c.args.n c.beside_digit-left.ensures c.if-n-lt10.false, c.put_aligned-to.ensures.place)

pub returns : goal.returns
returns t c =
    rw (aligned_more c.args.width _ c.args.n c.beside_digit-left.ensures c.if-n-lt10.false, ← c.last_digit.ensures)
    (c.put_aligned-to.ensures then c.put_padded-2.ensures)
