pub mod Types
pub mod Searches
pub mod KeyLists
pub mod Listings
pub mod TypeMaps
pub mod Sorts
pub mod Worlds
