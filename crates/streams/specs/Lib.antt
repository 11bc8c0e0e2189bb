pub mod OneLine
pub mod Streams
pub mod Told
pub mod Watched
pub mod seen
