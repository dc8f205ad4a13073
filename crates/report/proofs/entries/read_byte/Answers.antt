-- LF: the line that is held is answered, and nothing is held; any other byte is held.
use Rattle.text.proofs.EntriesRead.{line_read, byte_read}
use Rattle.report.proofs.entries.read_byte.Goals as goal

pub returns-then-b-eq-LF : goal.returns-then-b-eq-LF
returns-then-b-eq-LF c = let p = c.put_entry-at.ensures in line_read c.if-b-eq-LF.true p.0 p.1 p.2

pub returns : goal.returns
returns c = byte_read c.if-b-eq-LF.false c.requires.holds c.hold-held.ensures
