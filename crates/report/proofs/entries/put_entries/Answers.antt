-- What is held is read on in memory of its own, and what is held after the piece is written back.
use native.Mathlib.Omega.{arith}
use Rattle.text.proofs.EntriesRead.{piece_read}
use Rattle.report.proofs.entries.put_entries.Goals as goal

pub returns : goal.returns
returns c = piece_read c.requires (omega arith) c.put_over.ensures c.read_entries-ended.ensures c.put_over-2.ensures
