-- What document 02 asks of whole lists of records, over the step of theory and the verdicts that it answers
-- Faults already accepted
pub mod entries
-- Following a list for the access that ends it
pub mod following
-- The lazy reckoning
pub mod lazy
-- Which controller could have settled it
pub mod settling
-- The same run, logged in another order
pub mod swapping
