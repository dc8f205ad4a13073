-- The file of accepted faults: however it is cut, what is said for it is what is said for its lines. Assumes nothing.
use mathlib.Core.Path.{ap}
use Rattle.text.specs.Stream.{HeldEnough, CutsAlike}
use Rattle.text.specs.EntryForm.{entry_of}
use Rattle.text.specs.Entries.{said_for_entry, control_with, entry_reader}
use Rattle.text.proofs.Stream.{held_same, cuts_alike}
use Rattle.text.proofs.EntryForm.{long_entry}

pub entries_held : HeldEnough entry_reader
entries_held =
    record {
      same_said = λ n control l. ap (said_for_entry n control) (held_same entry_of long_entry l);
      same_next = λ control l. ap (control_with control) (held_same entry_of long_entry l);
    }

pub entry_reader_cuts : CutsAlike entry_reader
entry_reader_cuts = cuts_alike entry_reader entries_held
