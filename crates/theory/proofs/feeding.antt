-- One step simulates the recording, so every demand holds of feeding; paths and their match
pub mod Simulation
pub mod Cases
pub mod Profile
pub mod Demanded
pub mod Paths
pub mod Asked
pub mod Matching
pub mod Unused
pub mod Parts
