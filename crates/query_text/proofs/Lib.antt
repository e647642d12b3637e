pub mod TextLemmas
pub mod PlaceLemmas
pub mod FormLemmas
pub mod SpellLemmas
pub mod ReadLemmas
pub mod WrongLemmas
pub mod ExternalLemmas
pub mod ReplyLaws
mod QueryExamples
mod ReplyExamples
