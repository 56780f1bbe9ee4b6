pub mod Action
pub mod Counters
pub mod Format
pub mod Name
pub mod Operators
pub mod Picker
pub mod Text
