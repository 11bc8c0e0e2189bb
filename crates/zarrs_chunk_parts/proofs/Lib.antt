pub mod InPlace
pub mod Overlaps
pub mod Shares
pub mod Wholes
