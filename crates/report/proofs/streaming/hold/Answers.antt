-- What is held is written over with itself and as much of the part as there is room for.
use Rattle.text.proofs.Held.{holds}
use Rattle.report.proofs.streaming.hold.Goals as goal

pub returns : goal.returns
returns c = holds _ c.requires.0 c.requires.1 c.min-m.ensures c.put_over.ensures
