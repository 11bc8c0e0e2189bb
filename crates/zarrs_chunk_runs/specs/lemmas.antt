pub mod Positive
pub mod Running
