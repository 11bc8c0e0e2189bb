pub mod Plan
pub mod seen
