-- `reading::short::short_line`: the op, the two fields and LF stand one after the other. Assumes nothing.
use mathlib.Core.Path.{refl}
use Prim.Native.Nat.{◌+◌}
use native.Mathlib.Omega.{arith}
use Rattle.text.proofs.Short.{short_said}
use Rattle.reading.proofs.short.short_line.Goals as goal

pub returns : goal.returns
returns c =
    let a = c.args in
    let k = c.in_ok-op in
    let t = c.in_ok-task in
    let n = c.in_ok-on in
    short_said a.s.now a.p k.op.kind t.task.value n.on.value k.op.len t.task.len n.on.len (a.p + k.op.len)
    k.ensures.0 k.ensures.1 refl t.ensures.1 n.ensures.1
    (omega (arith, k.ensures.2, t.ensures.0, n.ensures.0)) c.if-s-end-ne-LF.false
