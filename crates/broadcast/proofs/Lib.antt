pub mod Bits
pub mod Sites
pub mod Held
