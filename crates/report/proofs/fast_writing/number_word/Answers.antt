-- All four pairs at once.
use mathlib.Core.Path.{◌≡◌}
use native.Mathlib.Omega.{arith}
use Rattle.text.specs.Bytes.{little}
use Rattle.text.proofs.Seven.{by_tens, pairs_below}
use Rattle.report.proofs.fast_writing.number_word.Goals as goal

pub overflow_add-result : goal.overflow_add-result
unfolding little
overflow_add-result c =
    let zeros : c.little_endian.result ≡ 3472328296227680317 = c.little_endian.ensures in
    omega (arith, zeros, c.in_pairs-pairs.ensures, pairs_below c.args.n c.requires)

pub returns : goal.returns
unfolding little
returns c = (by_tens c.args.n c.in_pairs-pairs.result c.little_endian.result c.requires c.in_pairs-pairs.ensures c.little_endian.ensures).1
