-- Swaps of unrelated neighbours change neither acceptance nor a verdict nor a partner task
pub mod Independent
pub mod Acceptance
pub mod Candidates
pub mod Says
pub mod Verdicts
pub mod Stays
pub mod Totals
pub mod Beside
pub mod Examples
