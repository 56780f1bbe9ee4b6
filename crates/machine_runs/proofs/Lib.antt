pub mod Steps
pub mod Turns
pub mod Opens
pub mod Sums
pub mod Runs
mod Row
