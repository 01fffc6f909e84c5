pub mod Xts
pub mod Cbc
pub mod Sector
pub mod SectorKey
pub mod Expanded
