mod BaseExamples
mod Examples
pub mod BytesLemmas
pub mod CheckLemmas
pub mod FieldLemmas
pub mod NumberLemmas
