pub mod Argument
pub mod Line
pub mod Table
