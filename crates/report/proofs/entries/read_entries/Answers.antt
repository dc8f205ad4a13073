-- The loop over the bytes: those before the index are read.
use mathlib.Core.Path.{refl, ◌∙◌}
use Rattle.text.proofs.Wrote.{as_long}
use Rattle.text.proofs.EntriesRead.{none_read, read_next}
use Rattle.report.proofs.entries.read_entries.Goals as goal

pub loop-b-init : goal.loop-b-init
loop-b-init c = (refl, refl, none_read c.requires.short)

pub loop-b-preserved : goal.loop-b-preserved
loop-b-preserved c =
    let i = c.loop-b.invariant in
    let p = c.read_byte-reached.ensures in
    (as_long p.wrote ∙ i.0, p.holds ∙ i.1, read_next c.args.piece.now c.loop-b-test.true i.2 p)
