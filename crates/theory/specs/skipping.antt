-- F-13: takes without clock work
pub mod Skipping
pub mod Demands
pub mod Examples
