pub mod StepLemmas
pub mod OnceLemmas
pub mod TotalLemmas
pub mod ProducesLemmas
mod PlaceLemmas
pub mod LoadLemmas
pub mod ReadLemmas
mod Examples
