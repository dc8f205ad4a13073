-- The tasks that are apart, without those of the pairs' cell.
use mathlib.Core.Path.{◌≡◌, ◌∙◌}
use Prim.Native.Nat.{ℕ, ◌-◌, ◌^◌, ◌<◌}
use native.Mathlib.Omega.{arith}
use Rattle.std.specs.Int.Bits.{bit_and}
use Rattle.theory.specs.tables.Reckonings.{clock_apart}
use Rattle.requests.specs.entries.Table.{paired_with, open_tasks}
use Rattle.theory.proofs.tables.Bits.{mask_without}
use Rattle.std.proofs.lemmas.Nat.{and-not, and_comm}
use Rattle.checker.proofs.entries.open_mask.Goals as goal

-- the bits of a mask that another has not, as a difference
others : (x m : ℕ) → x < 2 ^ 16 → m < 2 ^ 16 → bit_and x (2 ^ 16 - 1 - m) ≡ x - bit_and x m
others x m h l = rw (and_comm x (2 ^ 16 - 1 - m), and_comm x m) (omega (arith, and-not 16 m x l h))

pub returns : goal.returns
unfolding open_tasks
returns c =
    let a = c.args in
    others c.access_mask-apart.result c.lower_half.result (omega arith) (omega arith)
    ∙ rw (c.lower_half.ensures, c.paired_at.ensures.0, c.access_mask-apart.ensures)
    (mask_without (clock_apart a.fullclocks.now a.last.now a.access.kind a.access.task.0 a.access.variable.0) (paired_with a.control.now a.access.variable.0 a.access.task.0))
