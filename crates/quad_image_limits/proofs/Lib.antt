pub mod Instructions
pub mod Located
pub mod Controls
pub mod Blocks
pub mod Nesting
pub mod Targets
pub mod Valid
