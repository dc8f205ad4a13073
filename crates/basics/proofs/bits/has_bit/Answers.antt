-- A word has no bit past its last.
use mathlib.Core.Path.{◌≡◌, refl}
use Prim.Native.Nat.{◌/◌, ◌^◌, ◌≤◌}
use native.Mathlib.Nat.{div-eq_of_lt}
use native.Mathlib.Omega.{arith}
use borrow.Author.Tests.{le-ltb}
use lib.Pow.{pow_mono}
use Rattle.theory.specs.tables.Reckonings.{word_bits}
use Rattle.basics.proofs.bits.has_bit.Goals as goal

pub returns-else-k-lt-WIDTH : goal.returns-else-k-lt-WIDTH
returns-else-k-lt-WIDTH c =
    let a = c.args in
    let p : 2 ^ word_bits ≤ 2 ^ a.k = pow_mono c.if-k-lt-WIDTH.false in
    let none : a.word / 2 ^ a.k ≡ 0 = div-eq_of_lt (omega (arith, p)) in
    rw (le-ltb a.k word_bits c.if-k-lt-WIDTH.false, none) refl
