pub mod EntryLemmas
pub mod PrintLemmas
