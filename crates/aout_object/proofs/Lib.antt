mod Examples
pub mod AnswerLemmas
pub mod EndLemmas
pub mod FaultLemmas
pub mod FileLemmas
pub mod MakeLemmas
pub mod NameLemmas
pub mod PlaceLemmas
pub mod RecordLemmas
pub mod SpelledLemmas
pub mod StepLemmas
