pub mod Tokens
pub mod Words
pub mod Fronts
pub mod Scanning
pub mod Pieces
