pub mod CallerLemmas
pub mod CostLemmas
pub mod DerivingLemmas
pub mod LoadedLemmas
pub mod MaterialLemmas
pub mod OpeningLemmas
pub mod PrefixLemmas
pub mod ReasonLemmas
pub mod SameOrderLemmas
pub mod StopLemmas
mod TrialLemmas
pub mod VolumeLemmas
