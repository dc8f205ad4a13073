-- Ops by number and by role; paths by what lies between, by nodes and by places; tests of steps and conflicts
pub mod Ops
pub mod Numbered
pub mod Leads
pub mod Carry
pub mod Places
pub mod Tests
