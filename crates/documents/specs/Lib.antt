pub mod Document
pub mod Reading
pub mod StorageMetadata
pub mod chunkwhere
