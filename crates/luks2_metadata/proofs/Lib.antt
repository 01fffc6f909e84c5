pub mod SegmentLemmas
pub mod SlotLemmas
