pub mod following
pub mod lazy
pub mod entries
pub mod swapping
pub mod settling
