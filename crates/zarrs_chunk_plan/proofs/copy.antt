pub mod AskedChunks
pub mod Joined
pub mod MarkedChunks
