pub mod Read
pub mod Lines
pub mod Found
pub mod Walked
pub mod Copies
