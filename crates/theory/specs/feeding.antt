-- What an answer means, the step, how contracts name its state, and the demands on what feeding answers
pub mod Meaning
pub mod Step
pub mod Lent
pub mod Feeding
pub mod Paths
