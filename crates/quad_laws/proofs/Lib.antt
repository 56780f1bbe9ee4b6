pub mod Keeps
pub mod LiveRegisters
