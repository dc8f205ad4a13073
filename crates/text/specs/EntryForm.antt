-- The form of an entry of the faults already accepted (document 02, F-7): what a line says as an entry, and the text of an entry.
use Rattle.std.specs.Prelude.{◌≡◌, ℕ, zero, suc, ◌^◌, ◌≤◌, ◌<◌, Bool, true, false, cond, ◌&&◌, ◌||◌, ◌⊎◌, List, ◌++◌, length, leb, ltb, eqb, Option, Some, None}
use Rattle.theory.specs.order.Limits.{tasks, variables, records}
use Rattle.text.specs.declared.entry.Entry.{Entry}
use Rattle.text.specs.Bytes.{up_to, after, is_word}
use Rattle.text.specs.LineForm.{space, read_digits, field_by, field_of, longest}
use Rattle.text.specs.Printing.{bytes, last_digits, decimal, record_digits}

-- Words

-- what follows the first k spaces: nothing where there are fewer
unfoldable pub after_spaces : ℕ → List ℕ → List ℕ
after_spaces zero s = s
after_spaces (suc k) s = after_spaces k (after space s)

-- the word that begins there
unfoldable pub word_after : ℕ → List ℕ → List ℕ
word_after k s = up_to space (after_spaces k s)

-- Fields

abbrev pub rec_name : List ℕ
rec_name = bytes "rec="

abbrev pub var_name : List ℕ
var_name = bytes "var="

abbrev pub low_name : List ℕ
low_name = bytes "low="

abbrev pub high_name : List ℕ
high_name = bytes "high="

abbrev pub mark_word : Bool → List ℕ
mark_word true = bytes "mark=accepted"
mark_word false = bytes "mark=open"

-- entries "are read with five or seven digits" (F-9): those that F-7 had, and those of a report
abbrev pub fewer_digits : ℕ
fewer_digits = 5

unfoldable pub record_wide : ℕ → Bool
record_wide k = eqb k fewer_digits || eqb k record_digits

-- the number that so many digits say, leading zeros included
unfoldable pub read_record_number : List ℕ → Option ℕ
read_record_number s = cond (record_wide (length s)) (read_digits 0 s) None

-- the number of a field `rec=DDDDD` or `rec=DDDDDDD`
unfoldable pub record_field : List ℕ → Option ℕ
record_field s = field_by read_record_number rec_name s

-- Entries

-- "rec .. from 1 to the record limit .. low being smaller"
unfoldable pub in_range : Entry → Bool
in_range e =
    ltb 0 e.rec && (leb e.rec records && (ltb e.var variables && (ltb e.low e.high && ltb e.high tasks)))

-- an entry, if its numbers are within their ranges
unfoldable pub within_range : Entry → Option Entry
within_range e = cond (in_range e) (Some e) None

-- the entry of four numbers and the last word
unfoldable pub marked_entry : ℕ → ℕ → ℕ → ℕ → List ℕ → Option Entry
marked_entry rec var low high s =
    cond (is_word (mark_word true) s || is_word (mark_word false) s)
    (within_range (record { rec = rec; var = var; low = low; high = high; accepted = is_word (mark_word true) s }))
    None

-- the entry of what four fields say and the last word
abbrev pub entry_by : Option ℕ → Option ℕ → Option ℕ → Option ℕ → List ℕ → Option Entry
entry_by (Some rec) (Some var) (Some low) (Some high) s = marked_entry rec var low high s
entry_by (Some rec) (Some var) (Some low) None s = None
entry_by (Some rec) (Some var) None h s = None
entry_by (Some rec) None l h s = None
entry_by None v l h s = None

-- what a line says as an entry
unfoldable pub entry_of : List ℕ → Option Entry
entry_of s =
    entry_by (record_field (word_after 0 s)) (field_of var_name (word_after 1 s)) (field_of low_name (word_after 2 s)) (field_of high_name (word_after 3 s))
    (after_spaces 4 s)

-- the text of an entry with its record number in k digits, without its LF: `rec=00012 var=5 low=1 high=3 mark=accepted`, or `.. mark=open`
unfoldable pub entry_text : ℕ → Entry → List ℕ
entry_text k e =
    bytes "rec=" ++ last_digits k e.rec ++ bytes " var=" ++ decimal e.var ++ bytes " low=" ++ decimal e.low ++ bytes " high=" ++ decimal e.high
    ++ bytes " " ++ mark_word e.accepted

-- an entry of the form: the number of a record that there can be, a variable, and two tasks, the lower first
pub record InForm (e : Entry) : Type 0 where
  pub rec_some : 0 < e.rec
  pub rec_within : e.rec ≤ records
  pub var_within : e.var < variables
  pub low_lower : e.low < e.high
  pub high_within : e.high < tasks

-- the line is a text of the entry: with five digits, where they are enough for its record number, or with seven
pub record TextOf (e : Entry) (line : List ℕ) : Type 0 where
  pub count : ℕ
  pub five_or_seven : (count ≡ fewer_digits) ⊎ (count ≡ record_digits)
  pub enough : e.rec < 10 ^ count
  pub is : line ≡ entry_text count e

-- What is claimed of the form

-- each text of an entry is taken, as that entry, so that both "mean the same number"
abbrev pub EntryTaken : Type 0
EntryTaken = (e : Entry) → InForm e → (line : List ℕ) → TextOf e line → entry_of line ≡ Some e

-- each entry has one, up to the limit
abbrev pub EntryWritten : Type 0
EntryWritten = (e : Entry) → InForm e → TextOf e (entry_text record_digits e)

-- nothing else is: what is taken is a text of the entry
abbrev pub OnlyEntryText : Type 0
OnlyEntryText = (s : List ℕ) (e : Entry) → entry_of s ≡ Some e → TextOf e s

-- and of an entry of the form
abbrev pub OnlyInForm : Type 0
OnlyInForm = (s : List ℕ) (e : Entry) → entry_of s ≡ Some e → InForm e

-- no line of more bytes than `longest` is
abbrev pub LongEntry : Type 0
LongEntry = (s : List ℕ) → longest < length s → entry_of s ≡ None
