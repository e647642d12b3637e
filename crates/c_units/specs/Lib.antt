pub mod Choices
pub mod Declarations
pub mod Drafts
pub mod Files
pub mod Functions
pub mod Layouts
pub mod Tags
