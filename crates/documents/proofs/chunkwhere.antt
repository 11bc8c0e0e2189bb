pub mod IndexLists
pub mod Lines
pub mod Outcomes
