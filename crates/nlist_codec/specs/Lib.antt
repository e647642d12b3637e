pub mod Entries
pub mod Kinds
