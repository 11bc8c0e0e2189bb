pub mod ConfigurationIn
pub mod Fitting
pub mod Members
