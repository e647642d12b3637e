pub mod Emitting
pub mod FirstOfSource
pub mod Given
pub mod Layout
pub mod SourceMaking
pub mod Meaning
pub mod DefinedNames
pub mod Positions
