-- F-10: home and far, and when home can force Clear; what is computed in its place; and that the two are one
pub mod Forcing
pub mod Fold
pub mod Answer
pub mod Examples
