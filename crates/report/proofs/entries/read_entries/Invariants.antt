-- The loop over the bytes: those before the index are read.
use mathlib.Core.Path.{◌≡◌}
use lib.ListN.{length, take}
use Rattle.text.specs.EntriesRead.{EntriesRead}
use Rattle.text.proofs.EntriesRead.{both_times}
use Rattle.report.proofs.entries.read_entries.Given as goal

abbrev pub invariant-loop-b : goal.invariant-loop-b
invariant-loop-b l =
    (length l.out ≡ length l.initial.out) × (length l.line ≡ length l.initial.line)
    × EntriesRead (both_times l.initial.out l.out) (both_times l.initial.line l.line) (both_times l.initial.control l.control) l.fn.begun (take l.b-index l.piece) l.reached
