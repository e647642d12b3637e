pub mod CallLemmas
pub mod Decisions
pub mod Promises
pub mod HeadlineLemmas
pub mod StoreLemmas
mod HeadlineExamples
mod PromiseExamples
mod CallExamples
