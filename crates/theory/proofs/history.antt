-- Slots keep accesses, and their numbers tell the latest that conflict
pub mod Emptied
pub mod Slots
pub mod Stores
pub mod Accesses
pub mod Numbers
