pub mod Segments
pub mod Table
