pub mod OpenedRuns
pub mod VolumeRuns
