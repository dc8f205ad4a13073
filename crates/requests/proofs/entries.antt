-- F-7: the step leaves what a planner has accepted as it was; which Races are known
pub mod Kept
pub mod Taken
pub mod Known
