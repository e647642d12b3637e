pub mod EntryWords
pub mod Firsts
pub mod Nests
pub mod Counts
pub mod Runs
pub mod Marks
pub mod Outlines
pub mod Sweeps
