-- The rows of the refusal table as the code has them: a case of an enum for each, by its number.
use Rattle.std.specs.Prelude.{ℕ, List, [], ◌∷◌, cond, eqb, Result, Ok, Err}
use Rattle.theory.specs.declared.refusal.Refusal.{Refusal}
use Rattle.theory.specs.declared.refusal.Refusal.TheVariants.{UnknownKind, NoSuchTask, OutsideSeries, NoSuchMask, RecordingFull, TaskNotLive, StartedBefore, JoinsItself, NamedNotLive, OwnedBefore, MarkUnderProfile, AgainstHolder}

-- the number of a row
abbrev pub row_number : Refusal → ℕ
row_number UnknownKind = 1
row_number NoSuchTask = 2
row_number OutsideSeries = 3
row_number NoSuchMask = 4
row_number RecordingFull = 5
row_number TaskNotLive = 6
row_number StartedBefore = 7
row_number JoinsItself = 8
row_number NamedNotLive = 9
row_number OwnedBefore = 14
row_number MarkUnderProfile = 15
row_number AgainstHolder = 16

-- the number of an answer's refusal; 0 where there is none
abbrev pub refusal_in : {A : Type 0} → Result A Refusal → ℕ
refusal_in (Ok answer) = 0
refusal_in (Err row) = row_number row

-- all rows, in the order of the table
abbrev pub all_rows : List Refusal
all_rows =
    UnknownKind ∷ NoSuchTask ∷ OutsideSeries ∷ NoSuchMask ∷ RecordingFull ∷ TaskNotLive ∷ StartedBefore ∷ JoinsItself ∷ NamedNotLive
    ∷ OwnedBefore ∷ MarkUnderProfile ∷ AgainstHolder ∷ []

-- the first of some rows that has a number; row 1 where none has
abbrev pub first_numbered : List Refusal → ℕ → Refusal
first_numbered [] n = UnknownKind
first_numbered (row ∷ rows) n = cond (eqb (row_number row) n) row (first_numbered rows n)

-- the row of a number. No record gets a number that is none's (`OfRow`, Table.antt)
abbrev pub numbered_row : ℕ → Refusal
numbered_row n = first_numbered all_rows n
