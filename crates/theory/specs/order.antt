-- What a record says, steps and paths, and which accesses conflict, term by term as document 01 has it
pub mod Limits
pub mod Recording
pub mod Path
