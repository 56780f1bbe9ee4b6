pub mod Runs
pub mod Sections
pub mod Units
pub mod Words
