-- F-11: unrelated neighbours, swaps of them, and what they do not change
pub mod Unrelated
pub mod Swaps
pub mod Compared
pub mod Examples
