pub mod Digits
pub mod Forms
pub mod Halving
pub mod Merged
pub mod Places
pub mod RunSums
