pub mod RunCalls
pub mod Carrying
pub mod Deciding
pub mod Promise
pub mod Headline
