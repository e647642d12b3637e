pub mod CommandWords
pub mod Commands
