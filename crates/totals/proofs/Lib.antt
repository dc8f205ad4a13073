-- What the functions' proofs share
pub mod Aligned
pub mod Lines
