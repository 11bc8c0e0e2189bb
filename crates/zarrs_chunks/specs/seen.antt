pub mod Grids
pub mod Walks
