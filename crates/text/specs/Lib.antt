-- Lines, the text form of records and reports, as document 01 has them
pub mod Bytes
pub mod Lines
pub mod Printing
pub mod LineForm
pub mod Stream
pub mod ReportLines
pub mod Report
pub mod Pieces
pub mod TextDemands
pub mod TextTotals
-- Entries of the faults already accepted, as document 02 has them
pub mod EntryForm
pub mod Entries
pub mod TextKnown
-- As memory: what is written, what answering promises, and how a reader moves
pub mod Words
pub mod Wrote
pub mod Answers
pub mod EntriesRead
pub mod Reading
pub mod Places
