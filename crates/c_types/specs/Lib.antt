pub mod Acts
pub mod Lines
pub mod Named
pub mod Sizes
pub mod Stacks
pub mod Types
