pub mod LookedUp
pub mod Prepared
pub mod PreparedEncoding
pub mod seen
