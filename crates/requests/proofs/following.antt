-- What following comes to, and what the code that follows a list counts on
pub mod Following
pub mod Listed
