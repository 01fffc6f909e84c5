pub mod Code
pub mod List
pub mod Member
pub mod Numbered
pub mod Tree
