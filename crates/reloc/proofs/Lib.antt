mod Examples
pub mod RelocLemmas
