-- F-6: what an appended record changes of pairs, walks and short circuits; that the words follow; and the claim
pub mod Columns
pub mod Longer
pub mod Tracks
pub mod Kept
pub mod Passed
pub mod Steps
pub mod Followed
pub mod Answer
-- what the functions over the list need
pub mod Code
