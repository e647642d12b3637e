mod Examples
pub mod EntryLemmas
