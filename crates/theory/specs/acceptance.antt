-- Which records are accepted: the table of refusals, and the control table that it is read from
pub mod Owning
pub mod Table
pub mod Refusals
pub mod Control
pub mod Examples
