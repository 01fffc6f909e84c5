pub mod FailingLemmas
pub mod OpeningLemmas
pub mod RangeLemmas
pub mod StepLemmas
