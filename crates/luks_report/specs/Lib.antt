pub mod Dump
pub mod Dump1
pub mod Dump2
pub mod DumpLine
pub mod Faults
pub mod Findings
pub mod HeaderFault
pub mod Texts
