pub mod Limits
pub mod Waiting
