pub mod FaultLemmas
pub mod FloatLemmas
pub mod MarkLemmas
pub mod NumberLemmas
