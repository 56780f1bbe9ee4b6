pub mod Steps
pub mod Keeps
