-- Lemmas that several functions' proofs share.
pub mod Std
