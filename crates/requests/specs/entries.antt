-- F-7: faults that a planner has accepted: how they are kept, and what a Race prints as beside them
pub mod Table
pub mod Known
