-- Bytes, lines and numbers
pub mod Bytes
pub mod Lines
pub mod Digits
pub mod Numerals
pub mod Reading
-- The line form, both ways, and the lines of a report
pub mod LineForm
pub mod RoundTrip
pub mod EntryForm
pub mod Places
pub mod Ops
pub mod Seven
pub mod Short
pub mod Tasks
pub mod Wrote
pub mod Words
pub mod Lengths
pub mod ReportExamples
-- Texts in pieces, what the functions over them need, and the demand
pub mod Stream
pub mod Pieces
pub mod Entries
pub mod Reporting
pub mod Held
pub mod EntriesRead
pub mod Excused
pub mod TextDemands
pub mod TextTotals
pub mod TextKnown
