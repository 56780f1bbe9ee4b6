pub mod Masks
pub mod Positions
