-- F-10: what the two sides do together; when home can force Clear; that the tables tell it; and the claims
pub mod Sides
pub mod Forcing
pub mod Tables
pub mod Ruled
pub mod Answer
pub mod Alone
pub mod Examples
pub mod Refused
