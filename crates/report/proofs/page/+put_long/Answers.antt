-- Below ten a number is one digit, and from ten on its tenth's digits and its last one.
use native.Mathlib.Omega.{arith}
use Rattle.text.proofs.Wrote.{◌then◌, wrote_byte}
use Rattle.text.proofs.Digits.{decimal_small, decimal_more, length_small, length_more}
use Rattle.report.proofs.page.+put_long.Goals as goal

pub bounds-out-at : goal.bounds-out-at
bounds-out-at t c = omega (arith, length_small _ c.if-n-lt10.true, c.requires)

pub returns-then-n-lt10 : goal.returns-then-n-lt10
returns-then-n-lt10 t c = rw (decimal_small _ c.if-n-lt10.true, c.last_digit.ensures) wrote_byte

pub put_long-last-requires : goal.put_long-last-requires
put_long-last-requires t c = (omega (arith, c.decreases, c.if-n-lt10.false), omega (arith, length_more _ c.if-n-lt10.false, c.requires))

pub bounds-out-last : goal.bounds-out-last
bounds-out-last t c = omega (arith, length_more _ c.if-n-lt10.false, c.requires, c.put_long-last.ensures.place, c.put_long-last.auto.out)

pub returns : goal.returns
returns t c = rw (decimal_more _ c.if-n-lt10.false, c.last_digit-2.ensures) (c.put_long-last.ensures then wrote_byte)

pub overflow_add-result-2 : goal.overflow_add-result-2
overflow_add-result-2 t c = omega (arith, length_more _ c.if-n-lt10.false, c.requires, c.put_long-last.ensures.place, c.put_long-last.auto.out)
