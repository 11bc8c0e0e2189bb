pub mod Common
pub mod Counts
pub mod Ended
pub mod KeptLines
pub mod PartWay
