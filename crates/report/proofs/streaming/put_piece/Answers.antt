-- No line ends in the piece, and it is held; or those that end are answered, and the rest is held.
use mathlib.Core.Path.{subst}
use Prim.Native.Nat.{ℕ}
use native.Mathlib.Omega.{arith}
use lib.ListN.{drop}
use Rattle.text.specs.Lines.{lf}
use Rattle.text.proofs.Bytes.{Without}
use Rattle.text.proofs.Held.{piece_held, progress_said, short_held}
use Rattle.report.proofs.streaming.put_piece.Goals as goal

pub returns-then-rest-eq0-clause-answered : goal.returns-then-rest-eq0-clause-answered
returns-then-rest-eq0-clause-answered c =
    let h = c in
    let i = h in
    let start = i in
    let none = subst (λ (k : ℕ). Without lf (drop k start.args.piece.now)) i.if-rest-eq0.true i.rest_start-rest.ensures.none in
    let (p, q) = piece_held _ _ _ _ (short_held _ start.requires.short) none in
    record { progress = progress_said _ _ _ q h.hold-n.ensures.0 (rw p (omega arith)); wrote = rw p; fed = rw q; holds = rw q h.hold-n.ensures.1 }
