pub mod Held
pub mod Verdicts
pub mod Pages
