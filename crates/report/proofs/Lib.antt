-- What the functions' proofs share
pub mod Ahead
pub mod Judging
pub mod Pages
