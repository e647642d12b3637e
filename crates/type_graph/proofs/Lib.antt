pub mod KeyLemmas
pub mod KeyListLemmas
pub mod ListingLemmas
pub mod OrderLemmas
pub mod WorkListLemmas
pub mod SearchLemmas
pub mod FrontLemmas
pub mod IndexLemmas
pub mod NamesLemmas
pub mod StrayLemmas
mod Examples
