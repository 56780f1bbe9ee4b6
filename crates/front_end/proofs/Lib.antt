pub mod Refused
pub mod Few
pub mod Accepted
pub mod Checked
