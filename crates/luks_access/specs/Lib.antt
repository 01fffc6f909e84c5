pub mod Keys
pub mod Opens
pub mod Sectors
pub mod Steps
