-- F-6: the walk as document 02 has it, by places; what is computed in its place; and that the two are one
pub mod Walk
pub mod Fold
pub mod Answer
