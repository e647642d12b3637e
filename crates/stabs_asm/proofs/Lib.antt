mod AssemblyExamples
mod ListingExamples
pub mod AgainLemmas
pub mod EachLemmas
pub mod FaultlessLemmas
pub mod ListLemmas
pub mod MeansLemmas
pub mod PrintLemmas
pub mod ReadBackLemmas
pub mod RowLemmas
pub mod TokenLemmas
