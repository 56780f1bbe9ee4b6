pub mod Emitted
pub mod Stated
pub mod Whole
