pub mod DumpLemmas
pub mod WorldLemmas
pub mod LineLemmas
pub mod LoadLemmas
pub mod PlainLemmas
pub mod ReplyLemmas
pub mod EachLemmas
pub mod EachLaws
pub mod FewEntries
pub mod ImageWorld
pub mod LinkLaws
pub mod OneLaws
pub mod ExistsLaws
pub mod ImageLemmas
pub mod ImageQueries
mod OutcomeExamples
mod LinkExamples
mod ListExamples
mod CheckExamples
