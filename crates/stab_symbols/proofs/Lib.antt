pub mod DefinitionLemmas
pub mod SurfaceLemmas
pub mod WalkLemmas
pub mod NumberLemmas
pub mod Levels
mod OpeningLemmas
pub mod Examples
