pub mod BoxCounts
pub mod CountedParts
pub mod HeldRanges
pub mod MetCovers
pub mod OneDimension
pub mod Written
