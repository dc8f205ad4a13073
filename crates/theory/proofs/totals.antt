-- Totals do not touch what acceptance looks at, and equal the counts over what feeding answered
pub mod Raised
pub mod Moved
pub mod Kept
pub mod Counted
