-- The rows of the table, what an accepted record may be relied on for, and the control table
pub mod Rows
pub mod Numbered
pub mod Accepted
pub mod Plain
pub mod Updated
pub mod Owning
pub mod Keeping
pub mod ControlTable
pub mod Noted
pub mod Standings
pub mod Examples
