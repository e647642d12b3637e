pub mod Builder
pub mod Names
pub mod StringTable
