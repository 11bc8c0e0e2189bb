pub mod Words
pub mod chunkcalls
pub mod chunkplan
