pub mod HonestVolumes
pub mod OutcomeLemmas
pub mod PayloadLemmas
pub mod RunLemmas
pub mod StripeLemmas
