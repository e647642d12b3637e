pub mod Merged
pub mod ImageRows
pub mod Walking
