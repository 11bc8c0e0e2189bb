pub mod Reading
pub mod Stairs
pub mod Versioned
