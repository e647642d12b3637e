pub mod Checks
pub mod Decoding
pub mod Making
pub mod Objects
