pub mod Batches
pub mod Ends
pub mod JoinedKeys
pub mod LongParts
pub mod NotMade
pub mod Planned
pub mod PreparedAnswers
