pub mod Shared
pub mod Cells
pub mod Opening
pub mod Parts
