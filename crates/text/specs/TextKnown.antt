-- F-7, for texts: what a file of accepted faults comes to, line by line, and what a report has beside it. proofs/TextKnown.antt proves it.
use Rattle.std.specs.Prelude.{◌≡◌, ℕ, suc, ◌≤◌, Bool, true, false, List, [], ◌∷◌, ◌++◌, length, take, Option, Some, None}
use Rattle.theory.specs.declared.state.State.{State}
use Rattle.theory.specs.order.Limits as Limits
use Rattle.theory.specs.feeding.Step.{fresh_state, fresh_control}
use Rattle.requests.specs.entries.Table.{entries_full, entered}
use Rattle.requests.specs.entries.Known.{Fault, AllFit, entered_all, start_with}
use Rattle.text.specs.declared.entry.Entry.{Entry}
use Rattle.text.specs.Lines.{lines_of}
use Rattle.text.specs.Stream.{lines_said, lines_after, pending, pieces_said, pieces_after, whole_of}
use Rattle.text.specs.EntryForm.{InForm, TextOf, entry_of}
use Rattle.text.specs.ReportLines.{access_line, race_word, refused_entry}
use Rattle.text.specs.Report.{record_reader, report_of}
use Rattle.text.specs.Entries.{entry_reader}

-- The file

-- `EntryGot n control line control' said`: what line number n of the file got: it left the table control', and `said` is printed for it
pub data EntryGot (n : ℕ) (control : List ℕ) (line : List ℕ) : List ℕ → List ℕ → Type 0 where
  -- "12 for an entry outside this form or its ranges", which "is left out"
  no_entry : ((e : Entry) → InForm e → ¬ (TextOf e line)) → EntryGot n control line control (refused_entry n 12)
  -- "13 for an entry when 200 have been taken in"
  no_room : {e : Entry} → InForm e → TextOf e line → entries_full control ≡ true → EntryGot n control line control (refused_entry n 13)
  -- else it is taken in, and nothing is printed
  took_in : {e : Entry} → InForm e → TextOf e line → entries_full control ≡ false → EntryGot n control line (entered e.var e.low e.high e.accepted control) []

-- each line is answered, once and in order
pub data EntriesGot : ℕ → List ℕ → List (List ℕ) → List ℕ → List ℕ → Type 0 where
  no_entries : {n : ℕ} {control : List ℕ} → EntriesGot n control [] control []
  an_entry : {n : ℕ} {control control' after line said more : List ℕ} {lines : List (List ℕ)} →
      EntryGot n control line control' said → EntriesGot (suc n) control' lines after more → EntriesGot n control (line ∷ lines) after (said ++ more)

-- the entries that lines say, as faults, in their order
abbrev pub faults_by : Option Entry → List Fault → List Fault
faults_by None fs = fs
faults_by (Some e) fs = record { variable = e.var; low = e.low; high = e.high; accepted = e.accepted } ∷ fs

abbrev pub faults_in : List (List ℕ) → List Fault
faults_in [] = []
faults_in (l ∷ ls) = faults_by (entry_of l) (faults_in ls)

-- of a file: what each line gets, and the table after it: the first 200 of its entries were taken in, in the order of the lines
pub record FileRead (lines : List (List ℕ)) : Type 0 where
  pub got : EntriesGot 1 fresh_control lines (lines_after entry_reader fresh_control lines) (lines_said entry_reader 1 fresh_control lines)
  pub fit : AllFit (take Limits.entries (faults_in lines))
  pub table : lines_after entry_reader fresh_control lines ≡ entered_all (take Limits.entries (faults_in lines)) fresh_control

abbrev pub FilesRead : Type 0
FilesRead = (lines : List (List ℕ)) → FileRead lines

-- The report

-- `AsRace with without`: what a line gets beside entries, and without them: the same, or both are lines of one Race, with its word and its partner
pub data AsRace : List ℕ → List ℕ → Type 0 where
  the_same : {said : List ℕ} → AsRace said said
  a_race : (number task variable partner partner' : ℕ) (known : Bool) →
      AsRace (access_line number task variable (race_word known) partner') (access_line number task variable (race_word false) partner)

-- line by line
pub data AsRaces : List ℕ → List ℕ → Type 0 where
  no_line : AsRaces [] []
  a_line : {said said' more more' : List ℕ} → AsRace said said' → AsRaces more more' → AsRaces (said ++ more) (said' ++ more')

-- "a report with entries has `race` or `known` exactly where the report without them has `race`", and all else is the same
abbrev pub RaceOrKnown : Type 0
RaceOrKnown = (fs : List Fault) → AllFit fs → length fs ≤ Limits.entries → (lines : List (List ℕ)) → AsRaces (lines_said record_reader 1 (start_with fs) lines) (lines_said record_reader 1 fresh_state lines)

-- a file and a recording that come in pieces, cut anywhere: what is said for both is what their lines get, the recording beside the entries
pub record CutAnywhere (files pieces : List (List ℕ)) : Type 0 where
  pub file : pieces_said entry_reader (pending fresh_control 0 []) files ≡ lines_said entry_reader 1 fresh_control (lines_of (whole_of files))
  pub table : pieces_after entry_reader (pending fresh_control 0 []) files ≡ lines_after entry_reader fresh_control (lines_of (whole_of files))
  pub report : (s : State) → pieces_said record_reader (pending s 0 []) pieces ≡ lines_said record_reader 1 s (lines_of (whole_of pieces))

abbrev pub EntriesCut : Type 0
EntriesCut = (files pieces : List (List ℕ)) → CutAnywhere files pieces

-- with no entries it is document 01's report, to the byte
abbrev pub WithoutEntries : Type 0
WithoutEntries = (text : List ℕ) → lines_said record_reader 1 (start_with []) (lines_of text) ≡ report_of text
