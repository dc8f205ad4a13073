-- What has come to a semaphore has come to its last giver; takes without clock work, and their count
pub mod Learnt
pub mod Clocks
pub mod Plain
pub mod Code
pub mod Counted
pub mod Examples
