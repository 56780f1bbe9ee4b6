pub mod Walks
pub mod Decimals
pub mod Parts
pub mod Found
pub mod Collected
pub mod Tasks
