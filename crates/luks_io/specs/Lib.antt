pub mod CallOutcomes
pub mod Counts
pub mod Devices
