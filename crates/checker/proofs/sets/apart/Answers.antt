-- Both tests are made; no branch is taken on either.
use native.Mathlib.Omega.{arith}
use Rattle.theory.proofs.tables.Words.{and_weight}
use Rattle.checker.proofs.sets.apart.Goals as goal

pub returns : goal.returns
returns c =
    let a = c.args in
    rw (c.latest_number.ensures, c.weight.ensures.0 (omega arith), and_weight a.known a.u.0)
