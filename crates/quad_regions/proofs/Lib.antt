pub mod Keeps
pub mod Expressions
pub mod Statements
pub mod Blocks
pub mod Regions
pub mod Functions
pub mod Whole
