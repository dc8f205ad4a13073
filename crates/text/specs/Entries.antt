-- The file of accepted faults (document 02, F-7): its lines, one entry each, read into the control table, and what is printed for those that are
-- refused. It may come in pieces, as a recording does.
use Rattle.std.specs.Prelude.{ℕ, cond, List, [], Option, Some, None}
use Rattle.requests.specs.entries.Table.{entries_full, after_entry}
use Rattle.text.specs.declared.entry.Entry.{Entry}
use Rattle.text.specs.Stream.{Reader}
use Rattle.text.specs.EntryForm.{entry_of}
use Rattle.text.specs.ReportLines.{refused_entry}

-- "12 for an entry outside this form or its ranges, 13 for an entry when 200 have been taken in; .. 12 first"
abbrev pub said_for_entry : ℕ → List ℕ → Option Entry → List ℕ
said_for_entry n control None = refused_entry n 12
said_for_entry n control (Some e) = cond (entries_full control) (refused_entry n 13) []

-- "such an entry is left out"
abbrev pub control_with : List ℕ → Option Entry → List ℕ
control_with control None = control
control_with control (Some e) = after_entry e.var e.low e.high e.accepted control

abbrev pub entry_reader : Reader (List ℕ)
entry_reader = record { said = λ n control l. said_for_entry n control (entry_of l); next = λ control l. control_with control (entry_of l) }
