pub mod Host
pub mod Magic
pub mod Places
pub mod Run
pub mod Search
pub mod Searched
