pub mod KeyListing
