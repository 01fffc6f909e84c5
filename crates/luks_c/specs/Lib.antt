pub mod Keys
pub mod Stored
pub mod Steps
