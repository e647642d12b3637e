pub mod Meaning
pub mod Walking
