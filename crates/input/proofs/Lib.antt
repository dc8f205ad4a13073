-- What the functions' proofs share
pub mod Parts
pub mod Prefix
