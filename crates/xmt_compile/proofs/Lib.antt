pub mod Lists
pub mod Actors
pub mod Ended
pub mod Drawn
pub mod Opening
pub mod Threads
pub mod Schedule
pub mod Outputs
pub mod Traps
pub mod Steps
pub mod Working
pub mod Implements
pub mod Rows
mod EmptyRow
mod PlainPrograms
pub mod Compiled
pub mod Picked
