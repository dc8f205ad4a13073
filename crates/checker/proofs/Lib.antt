pub mod Accepting
pub mod Lent
pub mod Unsettled
