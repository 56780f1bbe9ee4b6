pub mod Compiles
pub mod Ended
pub mod Implements
pub mod Law
