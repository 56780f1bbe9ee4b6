pub mod Deep
pub mod Heads
pub mod Law
