pub mod ModeLemmas
pub mod UnitsUndone
pub mod UnitLemmas
pub mod DoublingLemmas
pub mod PairLemmas
