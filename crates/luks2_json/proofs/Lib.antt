pub mod EncodedLemmas
pub mod NumberedLemmas
pub mod TreeLemmas
