-- Tests that tell whether a statement holds; counting loops
pub mod Reflects
pub mod Turns
