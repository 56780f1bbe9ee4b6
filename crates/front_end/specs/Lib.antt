pub mod Refused
pub mod Kinds
pub mod Reads
pub mod Law
