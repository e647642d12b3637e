pub mod TakenLemmas
mod Fronts
mod FoundLemmas
mod GrowLemmas
mod EndLemmas
mod ActLemmas
pub mod OnceLemmas
mod Examples
