pub mod Grammar
pub mod Names
pub mod Statements
pub mod Thin
pub mod Tokens
