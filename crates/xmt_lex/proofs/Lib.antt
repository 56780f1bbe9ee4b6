pub mod Walk
pub mod Shown
pub mod Lookup
