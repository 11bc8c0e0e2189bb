pub mod Division
pub mod seen
