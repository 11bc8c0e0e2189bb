pub mod Axis
pub mod PreparedGrid
pub mod Ranges
pub mod RunTable
