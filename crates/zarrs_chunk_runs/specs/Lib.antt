pub mod Forms
pub mod Runs
pub mod Search
pub mod lemmas
pub mod seen
