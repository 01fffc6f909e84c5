pub mod Headline
pub mod NoCommand
pub mod Unlocking
