pub mod Fits
pub mod Declares
pub mod Limits
pub mod Checked
