pub mod Lined
pub mod Rows
pub mod Expressions
pub mod Statements
pub mod Known
pub mod Functions
pub mod Whole
