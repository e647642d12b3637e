pub mod Trees
pub mod Acts
pub mod Steps
pub mod Ends
pub mod Acting
