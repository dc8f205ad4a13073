-- The lines of the report ("Text and report").
use Rattle.std.specs.Prelude.{ℕ, Bool, true, false, List, [], ◌++◌}
use Rattle.text.specs.Printing.{bytes, decimal, record_text}
use Rattle.theory.specs.declared.record.Record.{Record}
use Rattle.theory.specs.declared.answer.Answer.{Answer}
use Rattle.requests.specs.declared.excuse.Excuse.{Excuse}
use Rattle.theory.specs.verdicts.Verdict.{Verdict, Race, Clear, Doubt}
use Rattle.theory.specs.feeding.Meaning.{Meaning, refuses, takes, judges, meaning}

-- which access it is: "rec=0000002 task=0 var=5", by its record number, task and variable
unfoldable pub access_part : ℕ → ℕ → ℕ → List ℕ
access_part number task variable =
    bytes "rec=" ++ record_text number ++ bytes " task=" ++ decimal task ++ bytes " var=" ++ decimal variable

-- an accepted access: "rec=0000002 task=0 var=5 verdict=clear with=0000000", with the verdict's word and the partner's record number
unfoldable pub access_line : ℕ → ℕ → ℕ → List ℕ → ℕ → List ℕ
access_line number task variable verdict partner =
    access_part number task variable ++ bytes " verdict=" ++ verdict ++ bytes " with=" ++ record_text partner ++ bytes "\n"

-- a refused line of a text of which each is called so: by its line number and the refusal's number
unfoldable pub refused_as : List ℕ → ℕ → ℕ → List ℕ
refused_as name line number = name ++ decimal line ++ bytes " refused=" ++ decimal number ++ bytes "\n"

-- a refused line of a recording: "line=10 refused=6"; one that yields no record is refused with 1
abbrev pub refused_line : ℕ → ℕ → List ℕ
refused_line = refused_as (bytes "line=")

-- a refused entry: "entry=4 refused=12"
abbrev pub refused_entry : ℕ → ℕ → List ℕ
refused_entry = refused_as (bytes "entry=")

-- the word of a verdict
abbrev pub word_for : Verdict → List ℕ
word_for Race = bytes "race"
word_for Clear = bytes "clear"
word_for Doubt = bytes "doubt"

-- what the report has for a line: its line number, the record that it said, and what the answer to that means
abbrev pub line_for : ℕ → Record → Meaning → List ℕ
line_for line r (refuses number) = refused_line line number
line_for line r (takes number) = []
line_for line r (judges number verdict partner) = access_line number r.task r.on (word_for verdict) partner

abbrev pub report_line : ℕ → Record → Answer → List ℕ
report_line line r a = line_for line r (meaning a)

-- Beside the faults that a planner has accepted

-- "A Race prints as `known`"
abbrev pub race_word : Bool → List ℕ
race_word true = bytes "known"
race_word false = bytes "race"

-- the same with a Race as it is excused; all else is as by document 01
abbrev pub excused_for : ℕ → Record → Excuse → Meaning → List ℕ
excused_for line r x (refuses number) = refused_line line number
excused_for line r x (takes number) = []
excused_for line r x (judges number Race partner) = access_line number r.task r.on (race_word x.known) x.partner.0
excused_for line r x (judges number Clear partner) = access_line number r.task r.on (word_for Clear) partner
excused_for line r x (judges number Doubt partner) = access_line number r.task r.on (word_for Doubt) partner

-- the partner by document 01; 0 where there is no verdict
abbrev pub partner_in : Meaning → ℕ
partner_in (refuses number) = 0
partner_in (takes number) = 0
partner_in (judges number verdict partner) = partner
