-- One digit, or a 1 and another.
use native.Mathlib.Omega.{arith}
use Rattle.text.proofs.Wrote.{◌then◌}
use Rattle.settle.proofs.Tasks.{one_digit, two_digits}
use Rattle.settle.proofs.showing.put_task.Goals as goal

pub returns-then-t-lt10 : goal.returns-then-t-lt10
returns-then-t-lt10 c = (rw (one_digit _ c.if-t-lt10.true) c.put_byte.ensures, omega (arith, c.put_byte.ensures.place))

pub returns : goal.returns
returns c = (
  rw (two_digits _ c.if-t-lt10.false c.requires.1) (c.put_byte-last.ensures then c.put_byte-2.ensures),
  omega (arith, c.put_byte-last.ensures.place, c.put_byte-2.ensures.place),
)
