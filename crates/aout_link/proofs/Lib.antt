mod Examples
mod LinkingExamples
pub mod SourceLemmas
pub mod FrontLemmas
pub mod MoveLemmas
pub mod NameLemmas
pub mod DefinitionLemmas
pub mod CommonLemmas
pub mod CommonPlaces
pub mod RelocLemmas
pub mod PlacedLemmas
pub mod FirstLemmas
pub mod AcceptedLemmas
pub mod KnownLemmas
pub mod GatheringLemmas
pub mod MakingLemmas
pub mod GroupLemmas
pub mod ExactLemmas
pub mod UnitLemmas
pub mod MergedLemmas
pub mod WorldLemmas
pub mod OneLinkLemmas
