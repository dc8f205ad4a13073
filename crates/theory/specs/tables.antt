-- What is computed for the order: tables of rows, clocks and sets
pub mod Counters
pub mod Rows
pub mod Reckonings
pub mod Joining
