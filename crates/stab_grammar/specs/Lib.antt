pub mod Depth
pub mod StringFaults
pub mod Grammar
