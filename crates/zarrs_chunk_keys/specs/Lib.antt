pub mod ChunkKey
pub mod Decoded
pub mod KeyKinds
pub mod Numeral
pub mod lemmas
pub mod seen
