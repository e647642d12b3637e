pub mod Owners
pub mod Expanding
pub mod Indexes
pub mod LookingUp
pub mod Filling
