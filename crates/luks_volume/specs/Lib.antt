pub mod Layout1
pub mod Layout2
pub mod Members
pub mod Pieces
pub mod Ranges
pub mod Ranges1
pub mod Ranges2
pub mod Sealed
