pub mod Divisor
pub mod Multiplier
