pub mod Calls
pub mod Causes
pub mod Held
pub mod InMemory
pub mod OnDisk
pub mod Transfer
