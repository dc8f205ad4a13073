-- What definitions of several subjects use
pub mod Turns
