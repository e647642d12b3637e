pub mod CheckLemmas
pub mod DefinitionLemmas
pub mod FaultLemmas
pub mod GivenLemmas
pub mod LeftLemmas
pub mod MakeLemmas
pub mod NameLemmas
pub mod ObjectLemmas
pub mod PlaceLemmas
mod PositionExamples
pub mod PositionLemmas
pub mod RelocLemmas
pub mod SizeLemmas
mod SourceExamples
pub mod TableLemmas
pub mod UndefinedLemmas
pub mod UniqueLemmas
pub mod WordLemmas
pub mod ZeroLemmas
