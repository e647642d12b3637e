pub mod Units
pub mod ObjectUnits
pub mod ReadingWalk
pub mod Forgetting
pub mod Joining
pub mod Changing
pub mod HeaderUnits
