-- Totals of verdicts, kept as records come in
pub mod Totals
pub mod Counting
