-- How long the lines of the report are: none is longer than 64 bytes. Assumes nothing.
use mathlib.Core.Path.{◌≡◌}
use mathlib.Core.List.{List}
use Prim.Native.Nat.{ℕ, ◌+◌, ◌*◌, ◌-◌, ◌^◌, ◌≤◌, ◌<◌}
use native.Mathlib.Omega.{arith}
use lib.ListN.{length, length-append}
use Rattle.theory.specs.declared.record.Record.{Record}
use Rattle.theory.specs.declared.answer.Answer.{Answer}
use Rattle.theory.specs.verdicts.Verdict.{Verdict, Race, Clear, Doubt}
use Rattle.theory.specs.feeding.Meaning.{Meaning, refuses, takes, judges, meaning, refusal_number}
use Rattle.text.specs.Lines.{line_room}
use Rattle.text.specs.LineForm.{digits}
use Rattle.text.specs.Printing.{bytes, last_digits, decimal, record_digits}
use Rattle.text.specs.ReportLines.{access_part, access_line, refused_as, refused_line, word_for, line_for, report_line}
use Rattle.text.proofs.Digits.{decimal_fits}

-- the lengths of the lines: the words and the record numbers are of fixed length
pub length_access_part : (number task variable : ℕ) → length (access_part number task variable) ≡ 15 + record_digits + length (decimal task) + length (decimal variable)
unfolding access_part last_digits
length_access_part number task variable = simp length-append (omega arith)

pub length_access_line : (number task variable : ℕ) (verdict : List ℕ) (partner : ℕ)
    → length (access_line number task variable verdict partner) ≡ 31 + 2 * record_digits + length (decimal task) + length (decimal variable) + length verdict
unfolding access_line last_digits
length_access_line number task variable verdict partner = simp length-append (omega (arith, length_access_part number task variable))

length_refused : (name : List ℕ) (line number : ℕ) → length (refused_as name line number) ≡ 10 + length name + length (decimal line) + length (decimal number)
unfolding refused_as
length_refused name line number = simp length-append (omega arith)

-- a refusal, by any line number and any number of 32 bits, of a line or of an entry
pub refused_fits : (name : List ℕ) (line number : ℕ) → length name ≤ 6 → line < 2 ^ 64 → number < 2 ^ 32 → length (refused_as name line number) ≤ line_room
refused_fits name line number l h g =
    omega (arith, length_refused name line number, decimal_fits 19 line (omega arith), decimal_fits 9 number (omega arith))

pub refused_line_fits : (line number : ℕ) → line < 2 ^ 64 → number < 2 ^ 32 → length (refused_line line number) ≤ line_room
refused_line_fits line number h g = refused_fits (bytes "line=") line number (omega arith) h g

-- an access, by a task and a variable that a line can say
pub access_line_fits : (number task variable : ℕ) (verdict : List ℕ) (partner : ℕ)
    → task < 10 ^ digits → variable < 10 ^ digits → length verdict ≤ 5 → length (access_line number task variable verdict partner) ≤ line_room
access_line_fits number task variable verdict partner h g w =
    omega (arith, length_access_line number task variable verdict partner, decimal_fits (digits - 1) task h, decimal_fits (digits - 1) variable g)

-- so 64 bytes are room for one
pub access_room : (at number task variable : ℕ) (verdict : List ℕ) (partner : ℕ) {room : ℕ} → at + line_room ≤ room → task < 10 ^ digits → variable < 10 ^ digits → length verdict ≤ 5
    → at + length (access_line number task variable verdict partner) ≤ room
access_room at number task variable verdict partner h t v w = omega (arith, access_line_fits number task variable verdict partner t v w)

-- a word of at most five letters
pub verdict_word_fits : (v : Verdict) → length (word_for v) ≤ 5
verdict_word_fits Race = omega arith
verdict_word_fits Clear = omega arith
verdict_word_fits Doubt = omega arith

-- a line of the report, whatever the answer. With tasks and variables of eight digits an access would take 66 bytes; a line of the text form says at most five.
pub report_line_fits : (line : ℕ) (r : Record) (a : Answer) → line < 2 ^ 64 → refusal_number (meaning a) < 2 ^ 32 → r.task < 10 ^ digits → r.on < 10 ^ digits
    → length (report_line line r a) ≤ line_room
report_line_fits line r a h n t v = fits (meaning a) n
  where
    fits : (m : Meaning) → refusal_number m < 2 ^ 32 → length (line_for line r m) ≤ line_room
    fits (refuses number) n = refused_line_fits line number h n
    fits (takes number) n = omega arith
    fits (judges number verdict partner) n = access_line_fits number r.task r.on (word_for verdict) partner t v (verdict_word_fits verdict)
