pub mod WalkLemmas
pub mod TakeLemmas
mod Examples
