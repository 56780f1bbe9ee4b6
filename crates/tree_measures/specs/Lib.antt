pub mod Nodes
pub mod Nesting
pub mod Waiting
