pub mod FromSource
pub mod Branches
pub mod Law
