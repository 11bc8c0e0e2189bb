pub mod BeforeShares
pub mod Between
pub mod FromNumber
pub mod Ranks
