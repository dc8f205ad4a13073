-- To which nodes order has come, in any filling; that the fullest completion has every path; who has acted
pub mod Fullest
pub mod Reach
pub mod Came
pub mod Between
pub mod Bounds
pub mod HasActed
pub mod Lost
