-- Counting, which several subjects use
pub mod basics
-- What a reader must believe, term by term as document 01 has it
pub mod order
pub mod fillings
pub mod acceptance
pub mod verdicts
-- What is computed, which the code is held against
pub mod history
pub mod tables
-- The step, and the demands on what feeding answers
pub mod feeding
-- Totals of the verdicts
pub mod totals
-- Takes without clock work
pub mod skipping
