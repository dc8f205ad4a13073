-- The kept accesses
pub mod History
