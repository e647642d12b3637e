pub mod Spelling
pub mod Readers
pub mod Words
pub mod TextFaults
