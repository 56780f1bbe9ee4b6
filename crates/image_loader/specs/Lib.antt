pub mod Header
pub mod Layout
pub mod Nesting
pub mod Reading
pub mod Ranges
pub mod Blocks
pub mod Order
pub mod Symbols
