pub mod Lists
pub mod Symbols
pub mod Texts
pub mod Waiting
pub mod Shared
pub mod WellFormed
