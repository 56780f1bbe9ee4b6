pub mod Written
pub mod Files
pub mod Faults
pub mod Runs
pub mod Sources
pub mod Images
pub mod Ended
