pub mod HeldLemmas
pub mod TransferLemmas
pub mod Examples
