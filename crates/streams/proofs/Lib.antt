pub mod OneLines
pub mod Known
pub mod LineBytes
pub mod Sent
pub mod Told
