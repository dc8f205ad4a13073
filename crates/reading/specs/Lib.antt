-- What the contracts of the reader's own functions cite.
pub mod Places
