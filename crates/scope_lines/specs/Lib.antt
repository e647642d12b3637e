pub mod Behind
pub mod Blocks
pub mod Lines
pub mod Nearest
pub mod ListPlaces
pub mod Roles
pub mod Scopes
pub mod Walks
