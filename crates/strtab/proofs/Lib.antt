pub mod AddedLemmas
pub mod BuilderLemmas
pub mod Examples
pub mod NamesLemmas
pub mod UsesLemmas
pub mod WordLemmas
