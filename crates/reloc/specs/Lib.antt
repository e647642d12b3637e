pub mod Relocs
pub mod Sums
