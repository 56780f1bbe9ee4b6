pub mod Given
pub mod Seen
pub mod Numbers
pub mod JobOf
pub mod Spelling
