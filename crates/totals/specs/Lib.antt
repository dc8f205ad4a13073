pub mod Argument
pub mod Table
