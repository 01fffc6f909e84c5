pub mod Digest2
pub mod Kdf2
pub mod Segment2
pub mod Slot2
