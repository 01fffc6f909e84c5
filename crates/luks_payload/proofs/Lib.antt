pub mod ForwardingLemmas
pub mod SectorLemmas
mod StepLemmas
