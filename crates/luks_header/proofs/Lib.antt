pub mod HorizonLemmas
pub mod KnownLemmas
pub mod LoadingLemmas
