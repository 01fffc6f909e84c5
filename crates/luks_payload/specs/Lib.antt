pub mod Plain
pub mod PumpEffects
