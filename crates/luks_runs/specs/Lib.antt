pub mod HeaderOutcome
pub mod Honest
pub mod Payload
pub mod Run
pub mod RunMessages
pub mod Stripe
pub mod VolumeOutcome
