pub mod Lowered
pub mod Law
