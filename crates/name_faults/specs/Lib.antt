pub mod Expressions
pub mod Statements
pub mod Nodes
pub mod Items
pub mod Parts
