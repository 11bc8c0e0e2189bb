pub mod ExactKeys
pub mod HaveKeys
pub mod Numerals
pub mod Parts
