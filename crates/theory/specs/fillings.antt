-- Loss marks and what may be filled in for them
pub mod Completion
