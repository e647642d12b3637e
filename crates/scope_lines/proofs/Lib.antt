pub mod AddressLemmas
pub mod BehindLemmas
pub mod BelongLemmas
pub mod EachLemmas
pub mod EndLemmas
mod Examples
pub mod GivesLemmas
pub mod LawLemmas
pub mod LineLemmas
pub mod NearestLemmas
pub mod NoneLemmas
pub mod OrderLemmas
pub mod PlaceLemmas
pub mod UnitLemmas
pub mod WalkLemmas
