pub mod Spelling
pub mod HashLine
pub mod Longest
